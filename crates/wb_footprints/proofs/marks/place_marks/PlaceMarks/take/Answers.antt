use Rattle.wb_footprints.proofs.marks.place_marks.PlaceMarks.take.Goals as goal

pub returns-in-Of : goal.returns-in-Of
returns-in-Of c = rw c.in-Of.is c.take_part.ensures
