-- A number for each index of a rectangle, as the elements there.
use Rattle.std.specs.Prelude.{ℤ, List, length}
use Rattle.std.specs.List.{zip}
use Rattle.selective_undo.specs.Edit.{write}
use Rattle.wb_cells.specs.declared.cells.kind.Kind.{Kind}
use Rattle.wb_cells.specs.Cells.{Name}
use Rattle.wb_cells.specs.Shapes.{Range, indices}
use Rattle.wb_edit.specs.declared.asked_numbers.AskedNumbers.{AskedNumbers}
use Rattle.wb_edit.specs.Commands.All.{number_cells}
use Rattle.wb_edit.specs.Trees.{Tree, ◌>>=◌}
use Rattle.wb_edit.specs.Looks.{array_named}
use Rattle.wb_edit.specs.Rectangles.{asked_numbers, over_rectangle, all_elements}

-- numbers at the indices of ranges, the first at the first index and so on: an array with a domain of this kind has to be over a
-- rectangular domain of their rank, and to have all those indices
abbrev pub put_numbers : Name → Kind → List Range → List ℤ → Tree
put_numbers a kind on vs = do
  unit ← over_rectangle (length on) kind
  there ← all_elements a (indices on)
  write (number_cells a (zip (indices on) vs))

-- a number for each index of a rectangle, as the elements there: the array is there, and a rectangle is asked for
abbrev pub put : Name → AskedNumbers → Tree
put a asked = do
  (d, kind) ← array_named a
  (on, vs) ← asked_numbers asked
  put_numbers a kind on vs
