use Rattle.std.proofs.Common.{◌≡◌, ◌++◌, drop}
use Rattle.selective_undo.specs.Changes.{inverse}
use Rattle.wb_cells.specs.Runs.{all_changes}
use Rattle.wb_log.proofs.steps.held.held_all.Given as goal

-- what the cells so far are, and then those of the runs that are left
abbrev pub invariant-loop-run : goal.invariant-loop-run
invariant-loop-run l = l.held ++ inverse (all_changes (drop l.run-index l.runs)) l.book.cells ≡ inverse l.changes l.book.cells
