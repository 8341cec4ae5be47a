use Rattle.wb_program.specs.KeptSeats.{told_text}
use Rattle.wb_program.proofs.kept_seat.Turns.answer.Goals as goal

pub returns-clause-answers : goal.returns-clause-answers
returns-clause-answers g c = λ line is. c.before_line.ensures line (told_text c.reply_in-told.result) c.reply_in-told.new.pass (c.reply_in-told.ensures line is)
