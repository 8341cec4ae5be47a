use Rattle.std.proofs.Common.{[], ◌∷◌}
use Rattle.std.proofs.KnownBytes.{Appends-nil}
use Rattle.wb_lines.proofs.Taking.{on_ok_at}
use Rattle.wb_lines.proofs.Answering.{told_none, turn_ok, turn_err}
use Rattle.wb_lines.proofs.turns.LinesAheadTurnsInfallible.serve_turn.Goals as goal

pub returns-then-is_err-clause-err : goal.returns-then-is_err-clause-err
returns-then-is_err-clause-err g c = λ first is.
    let taken = c.take_turn.ensures.taken in
    (taken.0, taken.1, ([], Appends-nil _, told_none g.M.Machine.answers c.args.state.now (first ∷ taken.0)))

pub returns-clause-ok : goal.returns-clause-ok
returns-clause-ok g c =
    let taken = c.take_turn.ensures.taken in
    turn_ok g.M.Machine.answers g.M.Asks.reads _ _ _ _ c.args.line c.args.buffer.now.line _ _ _ c.answer_taken.result taken.0 taken.1
    (on_ok_at c.take_turn.result _ c.is_err.result c.is_err.ensures.value c.if-is_err.false taken.2) c.answer_taken.ensures.ok

pub returns-clause-err : goal.returns-clause-err
returns-clause-err g c =
    let taken = c.take_turn.ensures.taken in
    turn_err g.M.Machine.answers g.M.Asks.reads _ _ _ _ c.args.line c.args.buffer.now.line _ _ _ c.answer_taken.result taken.0 taken.1
    (on_ok_at c.take_turn.result _ c.is_err.result c.is_err.ensures.value c.if-is_err.false taken.2) c.answer_taken.ensures.err
