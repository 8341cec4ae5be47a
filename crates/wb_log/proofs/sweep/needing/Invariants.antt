use Rattle.std.proofs.Common.{length, reverse, ◌-◌}
use Rattle.wb_footprints.specs.Swept.{AreSwept}
use Rattle.wb_log.specs.Kept.{by_number}
use Rattle.wb_log.proofs.Sweeps.{Swept}
use Rattle.wb_log.proofs.sweep.needing.Given as goal

abbrev pub invariant-loop-next : goal.invariant-loop-next
invariant-loop-next l =
    Swept (by_number l.entries) l.number (length l.entries) (reverse l.found.items) l.last l.waiting × AreSwept l.index l.swept l.waiting l.last

abbrev pub decreases-loop-next : goal.decreases-loop-next
decreases-loop-next l = length l.entries - l.last
