use Rattle.wb_desk.proofs.Results.{on_ok, if_err}
use Rattle.wb_kept_seats.proofs.turn.Turn.settle_seat.Goals as goal

pub returns-clause-stands : goal.returns-clause-stands
returns-clause-stands g c =
    let told = c.settle_seat.ensures in
    let (course, seats) = told.course in
    on_ok c.settle_seat.result (λ stands. (_, seats, (course.all, course.tells, stands course.all course.tells))) told.stands

pub returns-clause-differs : goal.returns-clause-differs
returns-clause-differs g c =
    let told = c.settle_seat.ensures in
    let (course, seats) = told.course in
    if_err c.settle_seat.result (λ why different. (_, seats, course, different.0)) told.err
