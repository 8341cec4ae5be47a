use Rattle.std.proofs.Common.{◌-◌, ◌^◌}
use Rattle.wb_footprints.specs.Marks.{marked}
use Rattle.wb_footprints.proofs.Joining.{JoinedUpTo}
use Rattle.wb_footprints.proofs.marks.key_marks.Marks.join_after.Given as goal

abbrev pub invariant-loop-number : goal.invariant-loop-number
invariant-loop-number g l = JoinedUpTo l.initial.waiting l.waiting (marked g.K.Ord.cmp l.self l.key) l.after l.from

abbrev pub decreases-loop-number : goal.decreases-loop-number
decreases-loop-number g l = 2 ^ 64 - l.from
