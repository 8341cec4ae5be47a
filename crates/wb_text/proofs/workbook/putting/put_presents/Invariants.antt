use Rattle.std.proofs.Common.{◌≡◌, drop}
use Rattle.wb_cells.specs.Cells.{state_of}
use Rattle.wb_cells.specs.WellFormed.{index_cell}
use Rattle.wb_text.specs.FromLines.Inserted.{inserted}
use Rattle.wb_text.specs.FromLines.Told.{presents}
use Rattle.wb_text.proofs.workbook.putting.put_presents.Given as goal

abbrev pub invariant-loop-index : goal.invariant-loop-index
invariant-loop-index l =
    inserted (presents (index_cell l.fn.kind l.fn.domain) (drop l.index-index l.indices)) (state_of l.cells)
    ≡ inserted (presents (index_cell l.fn.kind l.fn.domain) l.indices) (state_of l.fn.cells)
