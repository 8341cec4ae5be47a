use Rattle.wb_desk.proofs.Results.{on_ok, if_err}
use Rattle.wb_desk.proofs.turn.Turn.settle_seat.Goals as goal

pub returns-clause-stands : goal.returns-clause-stands
returns-clause-stands g c =
    let told = c.settle_seat-settled.ensures in
    let course = told.course in
    on_ok c.settle_seat-settled.result (λ stands. (_, told.seats, (course.all, course.tells, stands course.all course.tells))) told.stands

pub returns-clause-err : goal.returns-clause-err
returns-clause-err g c =
    let told = c.settle_seat-settled.ensures in
    if_err c.settle_seat-settled.result (λ why differs. ((_, told.seats, told.course, differs.0.0), differs.0.2)) told.err
