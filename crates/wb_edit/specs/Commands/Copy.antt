-- An element that is another one and a number more.
use Rattle.std.specs.Prelude.{ℤ, [], ◌∷◌}
use Rattle.selective_undo.specs.Edit.{write}
use Rattle.wb_cells.specs.declared.cells.cell.Cell.TheVariants.{Element}
use Rattle.wb_cells.specs.declared.cells.value.Value.TheVariants.{Number}
use Rattle.wb_cells.specs.declared.values.index.Index.{Index}
use Rattle.wb_cells.specs.Cells.{Name}
use Rattle.wb_edit.specs.Trees.{Tree, ◌>>=◌}
use Rattle.wb_edit.specs.Looks.{array_named, index_fits, element}
use Rattle.wb_edit.specs.Numbers.{sum}
use Rattle.wb_edit.specs.Implicit.{element_or_implicit}
use Rattle.wb_edit.specs.Writes.{set_to}

-- an element that is another one and a number more, a[i] = b[j] + c: the arrays are there, each index is of the rank and
-- type of its array's domain, the first element is there and the second or its implicit value, and the sum is within 64 bits
abbrev pub copy : Name → Index → Name → Index → ℤ → Tree
copy a i b j c = do
  (d, kind) ← array_named a
  (e, kind_of_e) ← array_named b
  unit ← index_fits kind i
  unit ← index_fits kind_of_e j
  there ← element a i
  x ← element_or_implicit b e kind_of_e j
  y ← sum x c
  write (set_to (Element a i) (Number y) ∷ [])
