use Rattle.std.proofs.Common.{◌-◌, ◌^◌}
use Rattle.wb_footprints.specs.Numbers.{numbered}
use Rattle.wb_footprints.specs.Relation.{AreFirstAfter}
use Rattle.wb_footprints.proofs.marks.numbers.Numbers.above.Given as goal

abbrev pub invariant-loop-number : goal.invariant-loop-number
invariant-loop-number l = AreFirstAfter (numbered l.self) l.after l.found.items l.from

abbrev pub decreases-loop-number : goal.decreases-loop-number
decreases-loop-number l = 2 ^ 64 - l.from
