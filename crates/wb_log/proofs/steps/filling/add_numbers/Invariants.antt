use Rattle.std.proofs.Common.{◌≡◌, ◌++◌, take}
use Rattle.wb_cells.specs.declared.changes.row.IndexedRow.TheVariants.{Elements}
use Rattle.wb_cells.specs.Runs.{packed_changes}
use Rattle.wb_log.specs.Fills.{values_in, values_of}
use Rattle.wb_log.proofs.steps.filling.add_numbers.Given as goal

-- the numbers of the changes so far stand behind the others
abbrev pub invariant-loop-change : goal.invariant-loop-change
invariant-loop-change g l =
    values_of l.numbers.items ≡ values_of l.initial.numbers.items ++ values_in (packed_changes (Elements l.array) (take l.change-index l.changes))
