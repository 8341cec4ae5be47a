use Rattle.wb_footprints.proofs.Gone.{neither}
use Rattle.wb_footprints.proofs.Indexed.{none_alone}
use Rattle.wb_footprints.proofs.marks.index_marks.IndexMarks.is_clear.Goals as goal

pub returns : goal.returns
returns c = λ yes x. neither _ _
    (none_alone c.args.self.now (c.is_empty.ensures c.if-not-is_empty.false) (c.is_empty-2.ensures c.if-not-is_empty-2.false) x c.args.number)
    (c.is_clear.ensures yes x)
