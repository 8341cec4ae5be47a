use Rattle.std.proofs.Common.{inr, refl}
use Rattle.wb_seats.proofs.early.StayingSettlings.answer_word.Goals as goal

pub returns : goal.returns
returns g c = λ line is. inr (record {
  word = c.args.word;
  is_word = is;
  said = c.answer_at.result;
  is_said = rw (← c.seat.ensures) c.answer_at.ensures;
  is_text = refl;
  same = refl;
})
