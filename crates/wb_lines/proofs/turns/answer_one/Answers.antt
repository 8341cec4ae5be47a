use Rattle.std.proofs.Common.{arith}
use Rattle.wb_lines.proofs.Answering.{reply_is}
use Rattle.wb_lines.proofs.turns.answer_one.Goals as goal

pub returns-in-Some-clause-reply : goal.returns-in-Some-clause-reply
returns-in-Some-clause-reply g c =
    reply_is g.M.Machine.answers g.M.Tells.text g.M.Asks.reads c.args.state.now c.answer-reply.new.arg2 c.in-Some.asked c.args.asked c.answer-reply.result.0 c.in-Some.is
    (λ line is. c.requires.answers _ _ _ _ c.in-Some.asked line c.answer-reply.result c.answer-reply.ensures is)

pub returns-in-Some-clause-spent : goal.returns-in-Some-clause-spent
returns-in-Some-clause-spent g c = (c.requires.spends _ _ _ _ c.in-Some.asked c.answer-reply.result c.answer-reply.ensures).0

pub returns-in-Some-clause-answered : goal.returns-in-Some-clause-answered
returns-in-Some-clause-answered g c = omega (arith, (c.requires.spends _ _ _ _ c.in-Some.asked c.answer-reply.result c.answer-reply.ensures).1)
