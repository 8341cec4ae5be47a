-- The workbook with no cells is well formed.
use Rattle.std.proofs.Common.{sym, ◌∙◌}
use Rattle.std.proofs.lemmas.Option.{none-some}
use Rattle.std.specs.FinMap.{empty, get-empty}
use Rattle.wb_cells.specs.Cells.{cell_cmp}
use Rattle.wb_cells.specs.WellFormed.{IsWellFormed}
use Rattle.wb_cells.specs.declared.cells.cell.Cell.TheVariants.{Object, Shape, In, Member, Mapping, Use, Implicit, Element}

pub empty_is_well_formed : IsWellFormed empty
empty_is_well_formed = record {
  names = λ n v e. absurd (none-some _ (sym (get-empty cell_cmp (Object n)) ∙ e));
  objects = λ n v e. absurd (none-some _ (sym (get-empty cell_cmp (Object n)) ∙ e));
  shapes = λ d. rw (get-empty cell_cmp (Object d)) (get-empty cell_cmp (Shape d));
  insides = λ d i. rw (get-empty cell_cmp (Shape d)) (get-empty cell_cmp (In d i));
  members = λ d i. rw (get-empty cell_cmp (Member d i)) tt;
  mappings = λ d. rw (get-empty cell_cmp (Object d)) (get-empty cell_cmp (Mapping d));
  uses = λ d n. rw (get-empty cell_cmp (Object n)) (get-empty cell_cmp (Use d n));
  implicits = λ a. rw (get-empty cell_cmp (Object a)) (get-empty cell_cmp (Implicit a));
  elements = λ a i. rw (get-empty cell_cmp (Object a)) (get-empty cell_cmp (Element a i));
}
