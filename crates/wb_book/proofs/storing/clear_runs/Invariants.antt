use Rattle.std.proofs.Common.{◌≡◌, take}
use Rattle.selective_undo.specs.Changes.{apply, clears}
use Rattle.wb_cells.specs.Cells.{state_of}
use Rattle.wb_cells.specs.Runs.{all_changes}
use Rattle.wb_book.specs.Joined.{stored_part}
use Rattle.wb_book.proofs.storing.clear_runs.Given as goal

abbrev pub invariant-loop-run : goal.invariant-loop-run
invariant-loop-run l = state_of l.cells ≡ apply (clears (stored_part (all_changes (take l.run-index l.runs)))) (state_of l.fn.cells)
