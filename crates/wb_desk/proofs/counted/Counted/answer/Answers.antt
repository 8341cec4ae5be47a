use Rattle.std.proofs.Common.{subst}
use Rattle.wb_desk.specs.Courses.{Tells}
use Rattle.wb_desk.specs.Serving.{Held, course_after}
use Rattle.wb_desk.proofs.Courses.{tells_answered, seats_same, settled_same}
use Rattle.wb_desk.proofs.Replies.{course_left}
use Rattle.wb_desk.proofs.counted.Counted.answer.Goals as goal

pub returns-then-is_entered-clause-course : goal.returns-then-is_entered-clause-course
returns-then-is_entered-clause-course g c opening all tells =
    let s = c.answer-reply in
    subst (λ (h : Held). Tells opening (course_after all h.seat c.args.request s.result) s.new.self) c.pass.view_is
    (tells_answered opening all c.args.self.now.journal c.pass.inside.seat c.pass.inside.own c.args.request s.result s.new.self
    s.ensures.strange s.ensures.answers tells)

pub returns-then-is_entered-clause-left : goal.returns-then-is_entered-clause-left
returns-then-is_entered-clause-left g c =
    let s = c.answer-reply in
    course_left c.args.self.now.journal c.pass.inside.seat c.args.request s.result s.new.self s.ensures.answers

pub returns-then-is_entered-clause-seats : goal.returns-then-is_entered-clause-seats
returns-then-is_entered-clause-seats g c =
    let s = c.answer-reply in
    seats_same c.args.self.now.journal c.pass.inside.seat c.args.request s.result s.new.self s.ensures.answers

pub returns-then-is_entered-clause-settled : goal.returns-then-is_entered-clause-settled
returns-then-is_entered-clause-settled g c =
    let s = c.answer-reply in
    settled_same c.args.self.now.journal c.pass.inside.seat c.args.request s.result s.new.self s.ensures.answers

pub returns-else-is_entered-clause-course : goal.returns-else-is_entered-clause-course
returns-else-is_entered-clause-course g c opening all tells =
    let s = c.answer-reply in
    subst (λ (h : Held). Tells opening (course_after all h.seat c.args.request s.result) s.new.self) c.pass.view_is
    (tells_answered opening all c.args.self.now.journal c.pass.inside.seat c.pass.inside.own c.args.request s.result s.new.self
    s.ensures.strange s.ensures.answers tells)

pub returns-else-is_entered-clause-left : goal.returns-else-is_entered-clause-left
returns-else-is_entered-clause-left g c =
    let s = c.answer-reply in
    course_left c.args.self.now.journal c.pass.inside.seat c.args.request s.result s.new.self s.ensures.answers

pub returns-else-is_entered-clause-seats : goal.returns-else-is_entered-clause-seats
returns-else-is_entered-clause-seats g c =
    let s = c.answer-reply in
    seats_same c.args.self.now.journal c.pass.inside.seat c.args.request s.result s.new.self s.ensures.answers

pub returns-else-is_entered-clause-settled : goal.returns-else-is_entered-clause-settled
returns-else-is_entered-clause-settled g c =
    let s = c.answer-reply in
    settled_same c.args.self.now.journal c.pass.inside.seat c.args.request s.result s.new.self s.ensures.answers
