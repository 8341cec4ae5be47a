use Rattle.std.proofs.Common.{◌∙◌, inl, sym}
use Rattle.std.proofs.lemmas.Result.{IfOk-weaker}
use Rattle.wb_sessions.proofs.reasons.why_no_text.Goals as goal

pub returns-in-Altered : goal.returns-in-Altered
returns-in-Altered g c =
    let altered = sym c.look_of-look.ensures ∙ c.in-Altered.is in
    IfOk-weaker c.why_altered.result _ _ (λ why h. inl (altered, h)) c.why_altered.ensures
