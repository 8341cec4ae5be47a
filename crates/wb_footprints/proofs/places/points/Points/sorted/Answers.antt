use Rattle.wb_footprints.specs.Points.{point_cmp}
use Rattle.wb_footprints.proofs.InBlocks.{points_total, points_exact}
use Rattle.wb_footprints.proofs.SortedPoints.{ascending, found_alike}
use Rattle.wb_footprints.proofs.places.points.Points.sorted.Goals as goal

pub invariant_of-result : goal.invariant_of-result
invariant_of-result c = rw c.shrink_to_fit.ensures.items (ascending point_cmp points_total points_exact c.args.points.items c.sort_unstable.new.self.items c.dedup.new.self.items
    c.sort_unstable.ensures.sorted c.dedup.ensures.filtered)

pub returns : goal.returns
returns c = λ f. rw c.shrink_to_fit.ensures.items (found_alike point_cmp points_total points_exact c.args.points.items c.sort_unstable.new.self.items c.dedup.new.self.items
    c.sort_unstable.ensures.sorted c.dedup.ensures.filtered c.sort_unstable.ensures.permutation f)
