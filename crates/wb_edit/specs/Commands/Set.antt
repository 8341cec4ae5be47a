-- A new element.
use Rattle.std.specs.Prelude.{ℤ, [], ◌∷◌}
use Rattle.selective_undo.specs.Edit.{write}
use Rattle.wb_cells.specs.declared.cells.cell.Cell.TheVariants.{Element}
use Rattle.wb_cells.specs.declared.cells.value.Value.TheVariants.{Number}
use Rattle.wb_cells.specs.declared.values.index.Index.{Index}
use Rattle.wb_cells.specs.Cells.{Name}
use Rattle.wb_edit.specs.Trees.{Tree, ◌>>=◌}
use Rattle.wb_edit.specs.Looks.{array_named, index_fits, element}
use Rattle.wb_edit.specs.Writes.{set_to}

-- a new element: the array is there, the index is of the rank and type of its domain, and there is an element at it
abbrev pub set : Name → Index → ℤ → Tree
set a i v = do
  (d, kind) ← array_named a
  unit ← index_fits kind i
  there ← element a i
  write (set_to (Element a i) (Number v) ∷ [])
