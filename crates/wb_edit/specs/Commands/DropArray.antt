-- The end of an array.
use Rattle.std.specs.Prelude.{List, ◌∷◌, map}
use Rattle.std.specs.Map.{keys_of}
use Rattle.selective_undo.specs.Edit.{write}
use Rattle.wb_cells.specs.declared.cells.cell.Cell.TheVariants.{Object, Use, Implicit, Element}
use Rattle.wb_cells.specs.declared.values.index.Index.{Index}
use Rattle.wb_cells.specs.Cells.{Name, Changes}
use Rattle.wb_edit.specs.Trees.{Tree, ◌>>=◌}
use Rattle.wb_edit.specs.Looks.{array_named}
use Rattle.wb_edit.specs.Elements.{elements}
use Rattle.wb_edit.specs.Writes.{clear, clear_all}

-- what the end of an array over a domain writes: the array, that it is bound to the domain, its implicit value, and its
-- elements become absent
abbrev pub dropped_cells : Name → Name → List Index → Changes
dropped_cells a d is = clear (Object a) ∷ clear (Use d a) ∷ clear (Implicit a) ∷ clear_all (map (Element a) is)

-- the end of an array: the array is there, and it is seen which elements that has
abbrev pub drop_array : Name → Tree
drop_array a = do
  (d, kind) ← array_named a
  es ← elements a
  write (dropped_cells a d (keys_of es))
