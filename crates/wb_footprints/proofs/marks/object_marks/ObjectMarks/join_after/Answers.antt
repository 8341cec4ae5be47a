use Rattle.std.proofs.Common.{ap, sym}
use Rattle.wb_footprints.specs.ObjectParts.{object_marked, at_name}
use Rattle.wb_footprints.proofs.Joining.{none_joined}
use Rattle.wb_footprints.proofs.marks.object_marks.ObjectMarks.join_after.Goals as goal

pub returns-in-None : goal.returns-in-None
returns-in-None c = none_joined c.args.waiting.now (object_marked c.args.self.now (c.args.name, c.args.part.now)) c.args.after
    (λ n up. ap (λ o. at_name o c.args.part.now n) (sym c.in-None.ensures.value))
