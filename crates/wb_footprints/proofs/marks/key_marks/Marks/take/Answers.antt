use Rattle.wb_footprints.proofs.Ranges.{sets_from}
use Rattle.wb_footprints.proofs.marks.key_marks.Marks.take.Goals as goal

pub returns : goal.returns
returns g c = sets_from g.K.Ord.cmp _ _ _ _ _ (λ q. c.remove.ensures.updates.0 q)
