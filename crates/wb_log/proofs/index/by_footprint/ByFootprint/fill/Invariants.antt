use Rattle.std.proofs.Common.{length, ◌-◌}
use Rattle.wb_log.specs.Indexed.{IsByFootprint}
use Rattle.wb_log.specs.Kept.{by_number}
use Rattle.wb_log.proofs.index.by_footprint.ByFootprint.fill.Given as goal

abbrev pub invariant-loop-self : goal.invariant-loop-self
invariant-loop-self l = IsByFootprint l.self (length l.entries) (by_number l.entries)

abbrev pub decreases-loop-self : goal.decreases-loop-self
decreases-loop-self l = length l.entries - l.self.entered
