-- Words for what commands write.
use Rattle.std.specs.Prelude.{List, map, Some, None}
use Rattle.selective_undo.specs.declared.Change.{Change}
use Rattle.wb_cells.specs.declared.cells.cell.Cell.{Cell}
use Rattle.wb_cells.specs.declared.cells.value.Value.{Value}
use Rattle.wb_cells.specs.Cells.{Changes}

-- the cell gets the value
abbrev pub set_to : Cell → Value → Change Cell Value
set_to c v = record { cell = c; value = Some v }

-- the cell becomes absent
abbrev pub clear : Cell → Change Cell Value
clear c = record { cell = c; value = None }

-- each of the cells becomes absent
abbrev pub clear_all : List Cell → Changes
clear_all cs = map clear cs

-- each of the cells gets the value
abbrev pub put_all : List Cell → Value → Changes
put_all cs v = map (λ c. set_to c v) cs
