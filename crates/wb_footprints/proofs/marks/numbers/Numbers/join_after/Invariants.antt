use Rattle.std.proofs.Common.{◌-◌, ◌^◌}
use Rattle.wb_footprints.specs.Numbers.{numbered}
use Rattle.wb_footprints.proofs.Joining.{JoinedUpTo}
use Rattle.wb_footprints.proofs.marks.numbers.Numbers.join_after.Given as goal

abbrev pub invariant-loop-number : goal.invariant-loop-number
invariant-loop-number l = JoinedUpTo l.initial.waiting l.waiting (numbered l.self) l.after l.from

abbrev pub decreases-loop-number : goal.decreases-loop-number
decreases-loop-number l = 2 ^ 64 - l.from
