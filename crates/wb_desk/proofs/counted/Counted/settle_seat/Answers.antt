use Rattle.wb_desk.proofs.Courses.{tells_settled, ends_with}
use Rattle.wb_desk.proofs.counted.Counted.settle_seat.Goals as goal

pub returns-in-Ok-clause-course : goal.returns-in-Ok-clause-course
returns-in-Ok-clause-course g c opening all tells =
    rw (← c.pass.view_is) (tells_settled opening all c.args.self.now.journal c.pass.inside.seat c.pass.inside.own c.in-Ok.count _ c.in-Ok.ensures.ok.0 tells)

pub returns-in-Ok-clause-stands : goal.returns-in-Ok-clause-stands
returns-in-Ok-clause-stands g c opening all tells =
    rw (← c.pass.view_is) (ends_with opening all c.args.self.now.journal c.pass.inside.seat c.pass.inside.own c.in-Ok.ensures.ok.0.agreed tells)
