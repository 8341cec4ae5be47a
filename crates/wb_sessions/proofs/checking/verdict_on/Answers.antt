use Rattle.wb_sessions.proofs.Judged.{judged}
use Rattle.wb_sessions.proofs.checking.verdict_on.Goals as goal

pub returns-in-Ok-told_of-clause-verdict : goal.returns-in-Ok-told_of-clause-verdict
returns-in-Ok-told_of-clause-verdict g c =
    let none = rw c.in-Ok-Err.field-0-is at c.in-Ok-Err.ensures.none in
    judged c.args.bytes.now c.in-Ok.verdict none c.in-Ok.ensures
