use Rattle.std.proofs.Common.{ap, sym}
use Rattle.wb_footprints.specs.Parts.{part_at, part_marked}
use Rattle.wb_footprints.specs.ObjectParts.{object_marked, at_name}
use Rattle.wb_footprints.proofs.AtPoints.{same_least, nowhere_least}
use Rattle.wb_footprints.proofs.marks.object_marks.ObjectMarks.least_in.Goals as goal

pub returns-in-Some : goal.returns-in-Some
returns-in-Some c =
    let m = c.in-Some.marks.now in
    let kind = c.args.kind in
    same_least (λ p n. part_marked m (part_at kind p) n) (λ p n. object_marked c.args.self.now (c.args.name, part_at kind p) n)
    (λ p n. ap (λ o. at_name o (part_at kind p) n) (sym c.in-Some.ensures.value)) c.args.indices.now c.args.after c.least_in.result c.least_in.ensures

pub returns-in-None : goal.returns-in-None
returns-in-None c =
    let kind = c.args.kind in
    nowhere_least (λ p n. object_marked c.args.self.now (c.args.name, part_at kind p) n)
    (λ p n. ap (λ o. at_name o (part_at kind p) n) (sym c.in-None.ensures.value))
    c.args.indices.now c.args.after
