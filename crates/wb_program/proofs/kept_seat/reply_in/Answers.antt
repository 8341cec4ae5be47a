use Rattle.std.proofs.Common.{refl}
use Rattle.wb_machine.specs.declared.replies.reply.Reply.TheVariants.{Refused}
use Rattle.wb_seats.proofs.Reading.{asked_here, refused_here}
use Rattle.wb_program.proofs.kept_seat.reply_in.Goals as goal

pub returns-in-Ok : goal.returns-in-Ok
returns-in-Ok g c = λ line is.
    let told = c.call.ensures in
    let r = told.reply in
    record {
      reply = c.call.result.value;
      is_reply = asked_here g.L.Opening.opening c.args.pass.now c.call.new.pass line c.args.asked c.in-Ok.said c.call.result.value c.in-Ok.is is
          (r.0, r.2, r.3, r.4) told.seat told.own told.share;
      is_text = refl;
    }

pub returns-in-Err : goal.returns-in-Err
returns-in-Err g c = λ line is. record {
  reply = Refused c.in-Err.why;
  is_reply = refused_here g.L.Opening.opening c.args.pass.now line c.args.asked c.in-Err.why c.in-Err.is is;
  is_text = refl;
}
