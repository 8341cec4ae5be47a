use Rattle.std.proofs.Common.{OnOk, List, refl, subst}
use Rattle.std.specs.Prelude.{IfOk, IfErr}
use Rattle.wb_desk.specs.Courses.{Marked, Tells}
use Rattle.wb_desk.specs.Early.{SettlesSeat, DiffersSeat, EndsWith}
use Rattle.wb_desk.proofs.Results.{if_err}
use Rattle.wb_kept_seats.specs.KeptCourses.{KeptCourse, kept_course}
use Rattle.wb_kept_seats.proofs.Fronts.{kept_settled, settled_history}
use Rattle.wb_kept_seats.proofs.seats.Seats.settle_seat.Goals as goal

pub invariant_of-self : goal.invariant_of-self
invariant_of-self g c =
    let was = c.self.inside in
    let told = c.settle_seat.ensures in
    let k = kept_course was.shared was.turns was.changes was.is_open in
    let l = kept_course c.settle_seat.new.shared was.turns was.changes was.is_open in
    kept_settled g.L.Opening.opening.history g.L.KeptOpening.lines k l c.args.pass.now.seat c.settle_seat.result c.self.invariant told.goes_on
    (settled_history k.course l.course c.args.pass.now c.settle_seat.new.pass c.settle_seat.result told.ok
    (if_err c.settle_seat.result (λ why h. h.0) told.err)) refl refl refl

pub returns-clause-ok : goal.returns-clause-ok
returns-clause-ok g c =
    subst (λ (x : KeptCourse). IfOk c.settle_seat.result (λ n. SettlesSeat x.course c.args.pass.now n c.settle_seat.new.shared.course c.settle_seat.new.pass)) c.self.view_is
    c.settle_seat.ensures.ok

pub returns-clause-err : goal.returns-clause-err
returns-clause-err g c =
    subst (λ (x : KeptCourse). IfErr c.settle_seat.result (λ why. DiffersSeat x.course c.args.pass.now why c.settle_seat.new.shared.course c.settle_seat.new.pass)) c.self.view_is
    (if_err c.settle_seat.result (λ why h. h.0) c.settle_seat.ensures.err)

pub returns-clause-stands : goal.returns-clause-stands
returns-clause-stands g c =
    subst (λ (x : KeptCourse). OnOk c.settle_seat.result ((all : List Marked) → Tells g.L.Opening.opening.history all x.course
    → EndsWith all c.args.pass.now.seat c.args.pass.now.own)) c.self.view_is c.settle_seat.ensures.stands
