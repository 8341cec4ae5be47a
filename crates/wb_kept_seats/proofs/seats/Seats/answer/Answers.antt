use Rattle.std.proofs.Common.{refl, sym, subst}
use Rattle.wb_desk.specs.Serving.{AnswersCourse}
use Rattle.wb_requests.specs.declared.requests.request.Request.{Request}
use Rattle.wb_machine.specs.declared.replies.reply.Reply.{Reply}
use Rattle.wb_kept_seats.specs.KeptCourses.{KeptCourse, kept_course}
use Rattle.wb_kept_seats.specs.Answering.{AnswersKept}
use Rattle.wb_kept_seats.proofs.Answering.{answered, kept_answered}
use Rattle.wb_kept_seats.proofs.seats.Seats.answer.Goals as goal

pub invariant_of-self : goal.invariant_of-self
invariant_of-self g c =
    let was = c.self.inside in
    let waits = c.let_wait-self-inside in
    let told = c.serve-reply.ensures in
    let k = kept_course was.shared was.turns was.changes was.is_open in
    let l = kept_course c.serve-reply.new.shared was.turns waits.new.waiting waits.result in
    let answers = subst (λ (asked : Request). AnswersCourse k.course c.args.pass.now.seat asked c.serve-reply.result l.course) c.into_parts-request.ensures.request told.answers in
    let ahead = c.into_parts-request.ensures.ahead in
    let a = answered k l c.args.pass.now.seat c.args.pass.now.own c.args.said c.into_parts-request.result.1 c.serve-reply.result told.strange answers told.total
    refl refl ahead waits.ensures.left waits.ensures.told in
    kept_answered g.L.Opening.opening.history g.L.KeptOpening.lines k l c.args.pass.now.seat c.args.pass.now.own c.args.said c.serve-reply.result c.into_parts-request.ensures.said a c.self.invariant

pub returns-clause-answers : goal.returns-clause-answers
returns-clause-answers g c =
    let was = c.self.inside in
    let waits = c.let_wait-self-inside in
    let told = c.serve-reply.ensures in
    let k = kept_course was.shared was.turns was.changes was.is_open in
    let l = kept_course c.serve-reply.new.shared was.turns waits.new.waiting waits.result in
    let answers = subst (λ (asked : Request). AnswersCourse k.course c.args.pass.now.seat asked c.serve-reply.result l.course) c.into_parts-request.ensures.request told.answers in
    let ahead = c.into_parts-request.ensures.ahead in
    let a = answered k l c.args.pass.now.seat c.args.pass.now.own c.args.said c.into_parts-request.result.1 c.serve-reply.result told.strange answers told.total
    refl refl ahead waits.ensures.left waits.ensures.told in
    subst (λ (r : Reply). AnswersKept c.args.self.now c.args.pass.now.seat c.args.pass.now.own c.args.said r l) (sym c.new.ensures.0)
    (subst (λ (x : KeptCourse). AnswersKept x c.args.pass.now.seat c.args.pass.now.own c.args.said c.serve-reply.result l) c.self.view_is a)
