use Rattle.std.proofs.Common.{◌≡◌, map, take}
use Rattle.wb_footprints.proofs.places.runs.packed_points.Given as goal

abbrev pub invariant-loop-change : goal.invariant-loop-change
invariant-loop-change g l = l.points.items ≡ map (λ e. e.0) (take l.change-index l.changes)
