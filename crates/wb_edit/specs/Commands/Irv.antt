-- A new implicit value (Chapel Language Specification, Arrays).
use Rattle.std.specs.Prelude.{ℤ, [], ◌∷◌}
use Rattle.selective_undo.specs.Edit.{write}
use Rattle.wb_cells.specs.declared.cells.cell.Cell.TheVariants.{Implicit}
use Rattle.wb_cells.specs.declared.cells.value.Value.TheVariants.{Number}
use Rattle.wb_cells.specs.Cells.{Name}
use Rattle.wb_edit.specs.Trees.{Tree, ◌>>=◌}
use Rattle.wb_edit.specs.Looks.{array_named}
use Rattle.wb_edit.specs.Kinds.{over_sparse}
use Rattle.wb_edit.specs.Writes.{set_to}

-- a new implicit value, which the indices of the parent have that are not in the sparse domain: the array is there, over a
-- sparse domain (Chapel Language Specification, Arrays)
abbrev pub irv : Name → ℤ → Tree
irv a v = do
  (d, kind) ← array_named a
  unit ← over_sparse kind
  write (set_to (Implicit a) (Number v) ∷ [])
