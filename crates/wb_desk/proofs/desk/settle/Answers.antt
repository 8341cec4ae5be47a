use Rattle.std.proofs.Common.{◌≡◌}
use Rattle.wb_desk.proofs.Courses.{ends_with_all}
use Rattle.wb_desk.proofs.Whole.{is_whole, whole_journal}
use Rattle.wb_desk.specs.Courses.{all_of}
use Rattle.wb_desk.proofs.desk.settle.Goals as goal

pub returns-in-None-clause-ok : goal.returns-in-None-clause-ok
returns-in-None-clause-ok g c = rw c.deref.ensures.value at c.in-None.ensures.cause

pub returns-in-None-clause-whole : goal.returns-in-None-clause-whole
returns-in-None-clause-whole g c =
    let s = c.into_inner-shared.result.course in
    whole_journal s.seats s.entries c.args.passes.items c.in-None.ensures.course.tells.lists (rw c.deref.ensures.value at c.in-None.ensures.cause)

pub returns-in-None-clause-stands : goal.returns-in-None-clause-stands
returns-in-None-clause-stands g c =
    let s = c.into_inner-shared.result.course in
    let course = c.in-None.ensures.course in
    (course.all, course.tells, ends_with_all g.L.Opening.opening.history course.all s c.args.passes.items (rw c.deref.ensures.value at c.in-None.ensures.cause) course.tells)

pub returns-in-None-clause-plain : goal.returns-in-None-clause-plain
returns-in-None-clause-plain g c plain =
    let course = c.in-None.ensures.course in
    (all_of course.all, is_whole g.L.Opening.opening.history course.all c.into_inner-shared.result.course (course.none plain) course.tells)

pub returns-clause-plain : goal.returns-clause-plain
returns-clause-plain g c plain =
    let course = c.in-Some.ensures.course in
    (all_of course.all, is_whole g.L.Opening.opening.history course.all c.into_inner-shared.result.course (course.none plain) course.tells)
