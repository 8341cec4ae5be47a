use Rattle.wb_keeping.proofs.Added.{other_added}
use Rattle.wb_keeping.proofs.answering.answer_other.Goals as goal

pub returns : goal.returns
returns g c =
    (c.step-reply.ensures, other_added c.args.request c.step-reply.result c.args.changes.now c.push_made.new.changes c.requires c.in_ok-push_made.ensures)
