use Rattle.std.proofs.Common.{arith}
use Rattle.wb_footprints.specs.Points.{point_cmp}
use Rattle.wb_footprints.proofs.InBlocks.{points_total, points_exact}
use Rattle.wb_footprints.proofs.AtMarks.{below_both}
use Rattle.wb_footprints.proofs.places.points.Points.place_from.Goals as goal

pub loop-low-init : goal.loop-low-init
loop-low-init c = record {
  from = omega arith;
  order = omega (arith, c.requires, c.len-count.ensures.value);
  within = omega (arith, c.len-count.ensures.value);
  below = λ i d a b. absurd (omega (arith, a, b));
}

pub loop-low-preserved : goal.loop-low-preserved
loop-low-preserved c = record {
  from = omega (arith, c.loop-low.invariant.from, c.half-half.ensures.from);
  order = c.half-half.ensures.order;
  within = omega (arith, c.loop-low.invariant.within, c.half-half.ensures.within);
  below = below_both point_cmp points_total points_exact c.args.self.now c.args.point.now c.args.from c.loop-low.low c.half-half.result.0 c.loop-low.invariant.below c.half-half.ensures.below;
}
