use Rattle.wb_footprints.specs.Marks.{marked}
use Rattle.wb_footprints.specs.PointMarks.{at_single}
use Rattle.wb_footprints.specs.Points.{point_cmp}
use Rattle.wb_footprints.proofs.AtPoints.{both_least}
use Rattle.wb_footprints.proofs.marks.point_marks.PointMarks.least_in.Goals as goal

pub returns : goal.returns
returns c =
    let m = c.args.self.now in
    both_least (λ p n. at_single m.single p n) (λ p n. marked point_cmp m.others p n) c.args.points.now c.args.after c.earlier.result
    (c.earlier.ensures.least _ _ c.args.after c.least_single.ensures c.least_other.ensures)
