use Rattle.std.proofs.Common.{inl, subst}
use Rattle.wb_sessions.specs.Checking.{IsVerdict}
use Rattle.wb_sessions.specs.Reasons.{IsToldOf}
use Rattle.wb_sessions.proofs.Telling.{told_of_1}
use Rattle.wb_sessions.proofs.checking.check_with.Goals as goal

pub returns-in-Ok-verdict_on-clause-judged : goal.returns-in-Ok-verdict_on-clause-judged
returns-in-Ok-verdict_on-clause-judged g c =
    let says = c.say.ensures.says in
    let verdict = c.in-Ok-verdict_on.verdict in
    let judged = subst (λ bytes. IsVerdict bytes verdict) c.deref.ensures.value c.in-Ok-verdict_on.ensures.verdict in
    (c.in-Ok.bytes.items, c.in-Ok.ensures.ok.0, (says.0, says.1, inl (verdict, judged, says.2)))

pub returns-in-Ok-verdict_on-clause-why : goal.returns-in-Ok-verdict_on-clause-why
returns-in-Ok-verdict_on-clause-why g c one =
    let says = c.say.ensures.says in
    let found = c.in-Ok-verdict_on in
    let told = subst (λ bytes. IsToldOf bytes found.verdict found.told) c.deref.ensures.value found.ensures.told in
    let reason = told_of_1 found.verdict _ says.0 c.in-Ok.bytes.items found.told one says.2 told in
    record {
      read = c.in-Ok.bytes.items;
      why = reason.0;
      consumed = c.in-Ok.ensures.ok.0;
      is_why = reason.1;
      is_told = reason.2;
    }
