use Rattle.std.proofs.Common.{refl}
use Rattle.wb_machine.specs.Replies.{reply_of}
use Rattle.wb_seats.proofs.seat.answer_asked.Goals as goal

pub returns-clause-answers : goal.returns-clause-answers
returns-clause-answers g c = λ line is.
    c.before_line.ensures line (reply_of c.reply_to-reply.result) c.reply_to-reply.new.pass
    (record { reply = c.reply_to-reply.result; is_reply = c.reply_to-reply.ensures line is; is_text = refl })
