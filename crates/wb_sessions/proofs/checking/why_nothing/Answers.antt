use Rattle.std.proofs.Common.{inr, subst}
use Rattle.std.proofs.lemmas.Result.{IfOk-weaker}
use Rattle.wb_sessions.specs.Reasons.{StopsJournal}
use Rattle.wb_sessions.proofs.checking.why_nothing.Goals as goal

pub returns-in-None : goal.returns-in-None
returns-in-None g c =
    let headless = subst (StopsJournal c.args.bytes.now) c.in-None.is c.requires in
    IfOk-weaker c.why_no_text.result _ _ (λ why h. inr (headless, h)) c.why_no_text.ensures
