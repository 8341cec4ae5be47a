use Rattle.std.proofs.Common.{◌≡◌, true, take}
use Rattle.std.specs.List.{list_all}
use Rattle.wb_footprints.specs.Points.{in_points}
use Rattle.wb_footprints.proofs.places.points.Points.has_all.Given as goal

abbrev pub invariant-loop-at : goal.invariant-loop-at
invariant-loop-at l = list_all (in_points l.self) (take l.at l.others) ≡ true
