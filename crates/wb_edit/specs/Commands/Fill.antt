-- One number as the elements at the indices of a rectangle.
use Rattle.std.specs.Prelude.{ℤ, map, length}
use Rattle.selective_undo.specs.Edit.{write}
use Rattle.wb_cells.specs.declared.cells.cell.Cell.TheVariants.{Element}
use Rattle.wb_cells.specs.declared.cells.value.Value.TheVariants.{Number}
use Rattle.wb_cells.specs.Cells.{Name}
use Rattle.wb_cells.specs.Shapes.{indices}
use Rattle.wb_edit.specs.declared.asked_rectangle.AskedRectangle.{AskedRectangle}
use Rattle.wb_edit.specs.Trees.{Tree, ◌>>=◌}
use Rattle.wb_edit.specs.Looks.{array_named}
use Rattle.wb_edit.specs.Rectangles.{asked_ranges, over_rectangle, all_elements}
use Rattle.wb_edit.specs.Writes.{put_all}

-- one number as the elements at the indices of a rectangle: the array is there, a rectangle is asked for, the array is over a
-- rectangular domain of its rank, and has all those indices
abbrev pub fill : Name → AskedRectangle → ℤ → Tree
fill a asked v = do
  (d, kind) ← array_named a
  on ← asked_ranges asked
  unit ← over_rectangle (length on) kind
  there ← all_elements a (indices on)
  write (put_all (map (Element a) (indices on)) (Number v))
