use Rattle.std.proofs.Common.{◌∙◌, ap}
use Rattle.wb_keeping.proofs.Added.{answered}
use Rattle.wb_keeping.proofs.answering.answer.Goals as goal

pub returns-in-Ok : goal.returns-in-Ok
returns-in-Ok g c =
    answered c.args.history.now c.reply_to.new.history c.args.line.now c.in_ok-reply.reply c.into_bytes.result.items c.args.changes.now c.reply_to.new.changes
    c.in_ok-reply.ensures (ap (λ v. v.items) c.into_bytes.ensures.value ∙ c.in-Ok.ensures)
