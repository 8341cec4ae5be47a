use Rattle.std.proofs.Common.{◌≡◌, drop}
use Rattle.wb_cells.specs.Cells.{state_of}
use Rattle.wb_cells.specs.WellFormed.{index_cell}
use Rattle.wb_literals.specs.Said.{items}
use Rattle.wb_literals.specs.Limits.Literals.{listed_in}
use Rattle.wb_text.specs.FromLines.Inserted.{inserted}
use Rattle.wb_text.specs.FromLines.Told.{presents}
use Rattle.wb_text.proofs.workbook.putting.put_members.Given as goal

abbrev pub invariant-loop-place : goal.invariant-loop-place
invariant-loop-place l =
    inserted (presents (index_cell l.fn.kind l.fn.domain) (drop l.place (listed_in (items l.set)))) (state_of l.cells)
    ≡ inserted (presents (index_cell l.fn.kind l.fn.domain) (listed_in (items l.set))) (state_of l.fn.cells)
