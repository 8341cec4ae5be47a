use Rattle.wb_footprints.proofs.marks.index_marks.IndexMarks.join_alone_at.Goals as goal

pub returns-in-Point : goal.returns-in-Point
returns-in-Point c = rw (← c.in-Point.ensures) c.join_after.ensures
