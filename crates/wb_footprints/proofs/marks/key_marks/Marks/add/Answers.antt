use Rattle.wb_footprints.proofs.Ranges.{sets_from}
use Rattle.wb_footprints.proofs.marks.key_marks.Marks.add.Goals as goal

pub returns-in-Ok-clause-ok : goal.returns-in-Ok-clause-ok
returns-in-Ok-clause-ok g c = sets_from g.K.Ord.cmp _ _ _ _ _ (λ q. c.in-Ok.ensures.updates.0 q)
