use Rattle.std.proofs.Common.{◌-◌}
use Rattle.wb_footprints.proofs.places.keys.reach_of.Given as goal

abbrev pub decreases-loop-reach : goal.decreases-loop-reach
decreases-loop-reach l = l.width - l.reach
