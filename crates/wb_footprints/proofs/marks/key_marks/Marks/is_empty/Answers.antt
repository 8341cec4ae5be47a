use Rattle.wb_footprints.proofs.Ranges.{none_at_all}
use Rattle.wb_footprints.proofs.marks.key_marks.Marks.is_empty.Goals as goal

pub returns : goal.returns
returns g c = λ yes. none_at_all g.K.Ord.cmp c.args.self.now (c.is_empty.ensures.0 yes)
