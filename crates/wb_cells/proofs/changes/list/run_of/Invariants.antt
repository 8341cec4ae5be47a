use Rattle.std.proofs.Common.{◌+◌, ◌≤◌, length, take}
use Rattle.wb_cells.specs.Runs.{all_changes}
use Rattle.wb_cells.proofs.changes.list.run_of.Given as goal

-- the place is none of the runs that were passed
abbrev pub invariant-loop-number : goal.invariant-loop-number
invariant-loop-number l = l.before + length (all_changes (take l.number l.runs)) ≤ l.at
