-- A desk's answer is that of what it keeps, and keeps what is locked.
use Rattle.std.proofs.Common.{◌≡◌, ◌∙◌, arith, ap}
use Rattle.wb_desk.specs.Courses.{count_of}
use Rattle.wb_desk.specs.Serving.{course_after}
use Rattle.wb_desk.specs.Locked.{Locked}
use Rattle.wb_desk.proofs.shared.serve.Goals as goal

pub invariant_of-shared : goal.invariant_of-shared
invariant_of-shared g c =
    let told = c.answer.ensures in
    let was = c.shared.invariant in
    let total : c.answer.new.self.calls.total ≡ count_of c.answer.new.self.journal.entries = cc (told.total, told.entries, was.0) in
    let course = was.4 in (
      total,
      was.1,
      omega (arith, told.seats, was.2),
      told.seats ∙ was.3,
      record {
        all = course_after course.all c.args.pass.now.seat c.args.request c.answer.result;
        tells = told.course g.L.Opening.opening.history course.all course.tells;
        none = λ plain. told.settled ∙ course.none plain;
      },
    )

pub returns-clause-goes_on : goal.returns-clause-goes_on
returns-clause-goes_on g c = rw (ap (λ (s : Locked). s.course) c.shared.view_is) at (c.answer.ensures.course g.L.Opening.opening.history)

pub returns-clause-strange : goal.returns-clause-strange
returns-clause-strange g c = rw (ap (λ (s : Locked). s.course) c.shared.view_is) at c.answer.ensures.strange

pub returns-clause-answers : goal.returns-clause-answers
returns-clause-answers g c = rw (ap (λ (s : Locked). s.course) c.shared.view_is) at c.answer.ensures.answers

pub returns-clause-left : goal.returns-clause-left
returns-clause-left g c = rw (ap (λ (s : Locked). s.course) c.shared.view_is) at c.answer.ensures.left

pub returns-clause-total : goal.returns-clause-total
returns-clause-total g c = rw (ap (λ (s : Locked). s.total) c.shared.view_is) at c.answer.ensures.total

pub returns-clause-own : goal.returns-clause-own
returns-clause-own g c = c.answer.ensures.own

pub returns-clause-share : goal.returns-clause-share
returns-clause-share g c = c.answer.ensures.share
