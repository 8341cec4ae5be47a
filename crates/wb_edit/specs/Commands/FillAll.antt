-- One number as every element of an array.
use Rattle.std.specs.Prelude.{ℤ, map}
use Rattle.std.specs.Map.{keys_of}
use Rattle.selective_undo.specs.Edit.{write}
use Rattle.wb_cells.specs.declared.cells.cell.Cell.TheVariants.{Element}
use Rattle.wb_cells.specs.declared.cells.value.Value.TheVariants.{Number}
use Rattle.wb_cells.specs.Cells.{Name}
use Rattle.wb_edit.specs.Trees.{Tree, ◌>>=◌}
use Rattle.wb_edit.specs.Looks.{array_named}
use Rattle.wb_edit.specs.Elements.{elements}
use Rattle.wb_edit.specs.Writes.{put_all}

-- one number as every element of an array: the array is there, and it is seen which elements that has
abbrev pub fill_all : Name → ℤ → Tree
fill_all a v = do
  (d, kind) ← array_named a
  es ← elements a
  write (put_all (map (Element a) (keys_of es)) (Number v))
