-- A look at the objects of a workbook shows their names.
use Rattle.std.proofs.Common.{◌≡◌, List, [], ◌∷◌, refl, ap, ◌∙◌}
use Rattle.std.specs.FinMap.{entries}
use Rattle.std.specs.FinMap.Entries.{where_key}
use Rattle.std.specs.List.{filter_map}
use Rattle.std.specs.Map.{keys_of}
use Rattle.selective_undo.proofs.Evaluation.{entries-retain_keys}
use Rattle.wb_cells.specs.declared.cells.cell.Cell.{Cell}
use Rattle.wb_cells.specs.declared.cells.cell.Cell.TheVariants.{Object}
use Rattle.wb_cells.specs.declared.cells.pattern.Pattern.TheVariants.{Objects}
use Rattle.wb_cells.specs.declared.cells.value.Value.{Value}
use Rattle.wb_cells.specs.Cells.{Name, Cells, cell_cmp, cell_order, matches}
use Rattle.wb_cells.specs.Readers.{object_of, objects, seen}

shown : (es : List (Cell × Value)) → filter_map (λ x. object_of x.0) (where_key cell_cmp (matches Objects) es) ≡ filter_map object_of (keys_of es)
shown [] = refl
shown ((Object n, v) ∷ es) = ap (λ (ns : List Name). n ∷ ns) (shown es)
shown (e ∷ es) = shown es

pub objects_shown : (s : Cells) → filter_map (λ x. object_of x.0) (seen s Objects) ≡ objects s
objects_shown s = ap (filter_map (λ x. object_of x.0)) (entries-retain_keys cell_order s (matches Objects)) ∙ shown (entries s)
