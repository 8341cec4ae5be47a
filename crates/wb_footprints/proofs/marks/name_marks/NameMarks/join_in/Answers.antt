use Rattle.wb_footprints.proofs.marks.name_marks.NameMarks.join_in.Goals as goal

pub returns-in-Inside : goal.returns-in-Inside
returns-in-Inside c = rw c.in-Inside.is c.join_in.ensures

pub returns-in-Members : goal.returns-in-Members
returns-in-Members c = rw c.in-Members.is c.join_in-in-Members.ensures

pub returns-in-Elements : goal.returns-in-Elements
returns-in-Elements c = rw c.in-Elements.is c.join_in-in-Elements.ensures
