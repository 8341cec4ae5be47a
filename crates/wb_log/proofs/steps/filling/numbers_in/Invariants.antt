use Rattle.std.proofs.Common.{◌≡◌, ◌++◌, drop}
use Rattle.wb_cells.specs.Runs.{all_changes}
use Rattle.wb_log.specs.Fills.{values_in, values_of}
use Rattle.wb_log.proofs.steps.filling.numbers_in.Given as goal

-- the numbers so far, and then those of the runs that are left
abbrev pub invariant-loop-run : goal.invariant-loop-run
invariant-loop-run l = values_of l.numbers.items ++ values_in (all_changes (drop l.run-index l.runs)) ≡ values_in l.before
