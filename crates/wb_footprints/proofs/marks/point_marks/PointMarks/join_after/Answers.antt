use Rattle.std.proofs.lemmas.Result.{on_ok_weaker}
use Rattle.wb_footprints.specs.Marks.{marked}
use Rattle.wb_footprints.specs.PointMarks.{at_single}
use Rattle.wb_footprints.specs.Points.{point_cmp}
use Rattle.wb_footprints.proofs.Joining.{then_joined}
use Rattle.wb_footprints.proofs.marks.point_marks.PointMarks.join_after.Goals as goal

pub returns : goal.returns
returns c =
    let m = c.args.self.now in
    on_ok_weaker c.join_after.result
    (λ h. then_joined c.args.waiting.now c.join_at_single.new.waiting c.join_after.new.waiting (at_single m.single c.args.point)
    (marked point_cmp m.others c.args.point) c.args.after c.in_ok-join_at_single.ensures h)
    c.join_after.ensures
