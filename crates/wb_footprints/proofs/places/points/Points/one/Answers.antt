use Rattle.wb_footprints.specs.Points.{point_cmp}
use Rattle.wb_footprints.proofs.InBlocks.{points_total, points_exact}
use Rattle.wb_footprints.proofs.SortedPoints.{alone}
use Rattle.wb_footprints.proofs.places.points.Points.one.Goals as goal

pub invariant_of-result : goal.invariant_of-result
invariant_of-result c = alone point_cmp points_total points_exact c.args.point.now
