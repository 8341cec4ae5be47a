use Rattle.std.proofs.Common.{◌≡◌, [], ◌∷◌, subst}
use Rattle.std.proofs.lemmas.Int.{to_z-of_z}
use Rattle.wb_footprints.specs.Marks.{marked}
use Rattle.wb_footprints.specs.PointMarks.{at_single}
use Rattle.wb_footprints.specs.Points.{Coordinates, point_cmp}
use Rattle.wb_footprints.specs.Relation.{IsLeastAfter}
use Rattle.wb_footprints.proofs.marks.point_marks.PointMarks.single_after.Goals as goal

pub returns : goal.returns
returns c =
    let m = c.args.self.now in
    let p = c.args.coordinate ∷ [] in
    let single : c.single.result ≡ p = simp (to_z-of_z, c.ranges.coordinate) at c.single.ensures in
    c.earlier.ensures.least (at_single m.single p) (marked point_cmp m.others p) c.args.after (simp (to_z-of_z, c.ranges.coordinate) at c.least_after.ensures)
    (subst (λ (q : Coordinates). IsLeastAfter (marked point_cmp m.others q) c.args.after c.least_after-2.result) single c.least_after-2.ensures)
