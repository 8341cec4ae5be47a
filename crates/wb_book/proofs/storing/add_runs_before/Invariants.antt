use Rattle.std.proofs.Common.{◌≡◌, ◌++◌, take}
use Rattle.selective_undo.specs.Changes.{inverse, sets}
use Rattle.wb_cells.specs.Cells.{state_of}
use Rattle.wb_cells.specs.Runs.{all_changes}
use Rattle.wb_book.specs.Joined.{stored_part}
use Rattle.wb_book.proofs.storing.add_runs_before.Given as goal

abbrev pub invariant-loop-run : goal.invariant-loop-run
invariant-loop-run l = l.before ≡ l.fn.before ++ inverse (sets (stored_part (all_changes (take l.run-index l.runs)))) (state_of l.cells)
