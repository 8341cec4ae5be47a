use Rattle.wb_seats.proofs.Reading.{asked_here, refused_here}
use Rattle.wb_seats.proofs.seat.reply_to.Goals as goal

pub returns-in-Ok : goal.returns-in-Ok
returns-in-Ok g c = λ line is.
    let told = c.call.ensures in
    let r = told.reply in
    asked_here g.L.Opening.opening c.args.pass.now c.call.new.pass line c.args.asked c.in-Ok.request c.call.result c.in-Ok.is is
    (r.0, r.2, r.3, r.4) told.seat told.own told.share

pub returns-in-Err : goal.returns-in-Err
returns-in-Err g c = λ line is. refused_here g.L.Opening.opening c.args.pass.now line c.args.asked c.in-Err.why c.in-Err.is is
