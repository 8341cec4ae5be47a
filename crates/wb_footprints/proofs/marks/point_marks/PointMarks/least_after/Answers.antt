use Rattle.wb_footprints.specs.Marks.{marked}
use Rattle.wb_footprints.specs.PointMarks.{at_single}
use Rattle.wb_footprints.specs.Points.{point_cmp}
use Rattle.wb_footprints.proofs.marks.point_marks.PointMarks.least_after.Goals as goal

pub returns : goal.returns
returns c =
    let m = c.args.self.now in
    c.earlier.ensures.least (at_single m.single c.args.point) (marked point_cmp m.others c.args.point) c.args.after c.least_at_single.ensures
    c.least_after.ensures
