use Rattle.std.proofs.Common.{◌≡◌, false, take}
use Rattle.std.specs.List.{list_any}
use Rattle.wb_footprints.specs.Points.{in_points}
use Rattle.wb_footprints.proofs.places.points.Points.has_one.Given as goal

abbrev pub invariant-loop-point : goal.invariant-loop-point
invariant-loop-point l = list_any (in_points l.self) (take l.point-index l.others) ≡ false
