-- Words for what commands write.
use Rattle.std.specs.Prelude.{List, map}
use Rattle.wb_cells.specs.declared.cells.cell.Cell.{Cell}
use Rattle.wb_cells.specs.declared.cells.value.Value.{Value}
use Rattle.wb_cells.specs.Cells.{Changes}
pub use Rattle.wb_reshape.specs.Writes.{set_to, clear, clear_all, put_all}

-- each cell gets the value beside it
abbrev pub put_each : List (Cell × Value) → Changes
put_each es = map (λ e. set_to e.0 e.1) es
