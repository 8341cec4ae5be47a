use Rattle.std.proofs.lemmas.Result.{on_ok_weaker}
use Rattle.wb_footprints.specs.Marks.{marked}
use Rattle.wb_footprints.specs.PointMarks.{at_single}
use Rattle.wb_footprints.specs.Points.{point_cmp}
use Rattle.wb_footprints.proofs.Joining.{both_joined}
use Rattle.wb_footprints.proofs.marks.point_marks.PointMarks.join_in.Goals as goal

pub returns : goal.returns
returns c =
    let m = c.args.self.now in
    on_ok_weaker c.join_others.result
    (λ h. both_joined (λ p n. at_single m.single p n) c.args.after (λ p n. marked point_cmp m.others p n) c.args.waiting.now c.join_single.new.waiting
    c.join_others.new.waiting c.args.points.now c.in_ok-join_single.ensures h)
    c.join_others.ensures
