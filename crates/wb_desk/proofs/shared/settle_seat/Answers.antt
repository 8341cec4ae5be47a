-- An early settlement is that of what a desk keeps, and keeps what is locked.
use Rattle.std.proofs.Common.{◌≡◌, ◌∙◌, true, false, arith, ap, sym}
use Rattle.wb_desk.specs.Courses.{count_of}
use Rattle.wb_desk.specs.Early.{course_settled}
use Rattle.wb_desk.specs.Locked.{Locked}
use Rattle.wb_desk.proofs.Results.{on_ok}
use Rattle.wb_desk.proofs.shared.settle_seat.Goals as goal

pub invariant_of-shared : goal.invariant_of-shared
invariant_of-shared g c =
    let told = c.settle_seat.ensures in
    let was = c.shared.invariant in
    let total : c.settle_seat.new.self.calls.total ≡ count_of c.settle_seat.new.self.journal.entries = omega (arith, told.together, was.0) in
    let course = was.4 in (
      total,
      was.1,
      omega (arith, told.seats, was.2),
      told.seats ∙ was.3,
      record {
        all = course_settled course.all c.args.pass.now.seat c.settle_seat.result;
        tells = told.course g.L.Opening.opening.history course.all course.tells;
        none = λ plain. let both : true ≡ false = sym c.requires ∙ plain in cc;
      },
    )

pub returns-clause-goes_on : goal.returns-clause-goes_on
returns-clause-goes_on g c = rw (ap (λ (s : Locked). s.course) c.shared.view_is) at (c.settle_seat.ensures.course g.L.Opening.opening.history)

pub returns-clause-ok : goal.returns-clause-ok
returns-clause-ok g c = rw (ap (λ (s : Locked). s.course) c.shared.view_is) at c.settle_seat.ensures.ok

pub returns-clause-total : goal.returns-clause-total
returns-clause-total g c = rw (ap (λ (s : Locked). s.total) c.shared.view_is) at c.settle_seat.ensures.total

pub returns-clause-err : goal.returns-clause-err
returns-clause-err g c = rw (ap (λ (s : Locked). s.course) c.shared.view_is, ap (λ (s : Locked). s.total) c.shared.view_is) at c.settle_seat.ensures.err

pub returns-clause-stands : goal.returns-clause-stands
returns-clause-stands g c = rw (ap (λ (s : Locked). s.course) c.shared.view_is) at (on_ok c.settle_seat.result (λ stands. stands g.L.Opening.opening.history) c.settle_seat.ensures.stands)
