use Rattle.wb_footprints.proofs.marks.place_marks.PlaceMarks.add.Goals as goal

pub returns-in-Of-clause-ok : goal.returns-in-Of-clause-ok
returns-in-Of-clause-ok c = rw c.in-Of.is c.add_part.ensures.ok
