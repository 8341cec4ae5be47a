use Rattle.std.proofs.Common.{sym, ◌≤◌, false, length, refl, arith}
use Rattle.std.proofs.lemmas.Option.{get_or_from_slice_get}
use Rattle.wb_footprints.specs.PointMarks.{at_single}
use Rattle.wb_footprints.specs.Points.{point_cmp}
use Rattle.wb_footprints.proofs.InBlocks.{points_total, points_exact}
use Rattle.wb_footprints.proofs.Joining.{none_joined, walked, all_joined}
use Rattle.wb_footprints.proofs.marks.point_marks.join_single.Goals as goal

pub loop-at-init : goal.loop-at-init
loop-at-init c = record { within = omega arith; joined = none_joined c.args.waiting.now (λ n. false) c.args.after (λ n up. refl) }

pub loop-at-preserved : goal.loop-at-preserved
loop-at-preserved c =
    let is = sym (get_or_from_slice_get c.args.points.now c.loop-at.at c.point-point.result c.point-point.result c.point-point.ensures) in
    let below = rw c.len-count.ensures.value at c.loop-at-test.true in
    record {
      within = c.next_single-at.ensures.within;
      joined = walked point_cmp points_total points_exact (at_single c.args.marks.now) c.args.after c.args.waiting.now c.loop-at.waiting c.join_at_single.new.waiting c.args.points.now
          c.loop-at.at c.next_single-at.result c.point-point.result below is c.next_single-at.ensures.behind c.next_single-at.ensures.within
          c.next_single-at.ensures.none c.loop-at.invariant.joined c.in_ok-join_at_single.ensures;
    }

pub returns : goal.returns
returns c =
    let ps = c.args.points.now in
    let test = rw c.len-count.ensures.value at c.loop-at-test.false in
    let high : length ps ≤ c.loop-at.at = omega (arith, test) in
    all_joined (at_single c.args.marks.now) c.args.after c.args.waiting.now c.loop-at.waiting ps c.loop-at.at high c.loop-at.invariant.joined
