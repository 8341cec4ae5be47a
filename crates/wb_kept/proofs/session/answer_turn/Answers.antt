use Rattle.std.proofs.Common.{ℕ, List, sym, subst}
use Rattle.wb_lines.specs.Reading.{IsText}
use Rattle.wb_kept.specs.Runs.{Step}
use Rattle.wb_kept.proofs.Serving.{whole}
use Rattle.wb_kept.proofs.session.answer_turn.Goals as goal

pub returns-clause-ok : goal.returns-clause-ok
returns-clause-ok g c = λ first is.
    let one = c.in_ok-answer.ensures.answered first (subst (λ (b : List ℕ). IsText c.args.line b first) (sym c.line.ensures) is) in
    let step : Step = record { line = first; reply = one.0; changes = one.1 } in
    whole g.M.Machine.answers c.args.kept.now.state c.answer.new.self.state c.answer_ahead.new.kept.state c.args.buffer.now c.answer_ahead.new.buffer
    c.args.turn.now.replies.items c.answer.new.turn.replies.items c.answer_ahead.new.turn.replies.items c.args.turn.now.changes c.answer.new.turn.changes
    c.answer_ahead.new.turn.changes c.in_ok-ahead.ahead step c.requires.empty.0 c.requires.empty.1 one.2 one.3 one.4 c.in_ok-ahead.ensures.ok
