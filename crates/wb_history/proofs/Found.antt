-- An element that is there is what a question for it is answered.
use Rattle.std.proofs.Common.{◌≡◌, ℤ, Option, Some, Ok, is_some, ap, ◌∙◌}
use Rattle.std.specs.FinMap.{get}
use Rattle.wb_book.proofs.Formed.{element_of}
use Rattle.wb_cells.specs.declared.cells.cell.Cell.TheVariants.{Element}
use Rattle.wb_cells.specs.declared.cells.value.Value.{Value}
use Rattle.wb_cells.specs.declared.cells.value.Value.TheVariants.{Number}
use Rattle.wb_cells.specs.declared.values.index.Index.{Index}
use Rattle.wb_cells.specs.Cells.{Name, Cells}
use Rattle.wb_cells.specs.WellFormed.{IsWellFormed}
use Rattle.wb_edit.specs.Looks.{array_kind}
use Rattle.wb_history.specs.Queries.{get_answer, get_from, element_at, element_or_implicit}
use Rattle.wb_log.proofs.Straight.{key_fits}

pub element_found : (s : Cells) → IsWellFormed s → (a : Name) (i : Index) (v : ℤ) → get s (Element a i) ≡ Some (Number v) → get_answer s a i ≡ Ok v
element_found s formed a i v there =
    let of = element_of s formed a i (ap is_some there) in
    ap (λ (o : Option Value). get_from s a i (array_kind o)) of.1
    ∙ ap (element_at s a of.0.0 of.0.1 i) (key_fits of.0.1 i of.2)
    ∙ ap (element_or_implicit s a of.0.0 of.0.1 i) there
