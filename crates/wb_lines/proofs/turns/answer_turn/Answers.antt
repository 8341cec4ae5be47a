use Rattle.std.proofs.Common.{[], arith}
use Rattle.std.proofs.KnownBytes.{Appends-nil}
use Rattle.wb_lines.proofs.Answering.{taken_length, told_nothing, turn_told, turn_halts, halts_within}
use Rattle.wb_lines.proofs.Taking.{on_ok_at, on_err_at}
use Rattle.wb_lines.proofs.turns.answer_turn.Goals as goal

pub returns-then-is_err-clause-err : goal.returns-then-is_err-clause-err
returns-then-is_err-clause-err g c = λ asked t.
    let lost = on_err_at c.answer_lines-answered.result _ c.is_err.result c.is_err.ensures.value c.if-is_err.true c.answer_lines-answered.ensures.err asked t in (
      [],
      Appends-nil _,
      told_nothing g.M.Machine.answers _ _ asked lost.0 lost.1 lost.3.0 lost.2
          (omega (arith, taken_length g.M.Asks.reads asked c.args.taken.now.items t, c.requires.short)) lost.3.1,
    )

pub returns-clause-ok : goal.returns-clause-ok
returns-clause-ok g c =
    turn_told g.M.Machine.answers g.M.Tells.text g.M.Asks.reads c.tell_replies.result _ _ _ _ _ _ _
    (on_ok_at c.answer_lines-answered.result _ c.is_err.result c.is_err.ensures.value c.if-is_err.false c.answer_lines-answered.ensures.ok)
    c.tell_replies.ensures.ok

pub returns-clause-err : goal.returns-clause-err
returns-clause-err g c =
    turn_halts g.M.Machine.answers g.M.Tells.text g.M.Asks.reads c.tell_replies.result _ _ _ _ _ _ _ c.requires.short
    (on_ok_at c.answer_lines-answered.result _ c.is_err.result c.is_err.ensures.value c.if-is_err.false c.answer_lines-answered.ensures.ok)
    c.tell_replies.ensures.err

pub returns-clause-halted : goal.returns-clause-halted
returns-clause-halted g c =
    let count = on_ok_at c.answer_lines-answered.result _ c.is_err.result c.is_err.ensures.value c.if-is_err.false c.answer_lines-answered.ensures.count in
    halts_within g.M.Machine.answers g.M.Tells.text g.M.Asks.reads c.tell_replies.result _ _ _ c.answer_lines-answered.new.replies.items (omega (arith, count))
    c.tell_replies.ensures.err
