use Rattle.std.proofs.Common.{ap, sym}
use Rattle.std.proofs.lemmas.Result.{on_ok_weaker}
use Rattle.wb_footprints.specs.Parts.{part_at, part_marked}
use Rattle.wb_footprints.specs.ObjectParts.{object_marked, at_name}
use Rattle.wb_footprints.proofs.Joining.{same_joined, nowhere_joined}
use Rattle.wb_footprints.proofs.marks.object_marks.ObjectMarks.join_in.Goals as goal

pub returns-in-Some : goal.returns-in-Some
returns-in-Some c =
    let m = c.in-Some.marks.now in
    let kind = c.args.kind in
    on_ok_weaker c.join_in.result
    (λ h. same_joined (λ p n. part_marked m (part_at kind p) n) c.args.after (λ p n. object_marked c.args.self.now (c.args.name, part_at kind p) n)
    (λ p n. ap (λ o. at_name o (part_at kind p) n) (sym c.in-Some.ensures.value)) c.args.waiting.now c.join_in.new.waiting c.args.indices.now h)
    c.join_in.ensures

pub returns-in-None : goal.returns-in-None
returns-in-None c =
    let kind = c.args.kind in
    nowhere_joined (λ p n. object_marked c.args.self.now (c.args.name, part_at kind p) n) c.args.after
    (λ p n. ap (λ o. at_name o (part_at kind p) n) (sym c.in-None.ensures.value)) c.args.waiting.now c.args.indices.now
