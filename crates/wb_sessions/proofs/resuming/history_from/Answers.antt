use Rattle.std.proofs.Common.{[], inl, inr, refl, rules, subst}
use Rattle.wb_sessions.specs.Checking.{IsNoRecord}
use Rattle.wb_sessions.specs.Reasons.{WhyNoHistory}
use Rattle.wb_sessions.proofs.Opening.{nothing_more, of_none}
use Rattle.wb_sessions.proofs.Telling.{or_fault}
use Rattle.wb_sessions.proofs.resuming.history_from.Goals as goal

pub returns-in-Ok-None-clause-opens : goal.returns-in-Ok-None-clause-opens
returns-in-Ok-None-clause-opens g c =
    let says = c.refuse.ensures.says in
    let none = of_none c.in-Ok-None.field-0 (IsNoRecord c.deref.result.now) (search rules) c.in-Ok-None.ensures.none in
    (c.in-Ok.bytes.items, c.in-Ok.ensures.ok.0, (says.0, says.1, or_fault (subst IsNoRecord c.deref.ensures.value none) says.2))

pub returns-clause-opens : goal.returns-clause-opens
returns-clause-opens g c = (c.in-Ok.bytes.items, c.in-Ok.ensures.ok.0, ([], nothing_more _, inr (inr refl, refl)))

pub returns-in-Ok-None-clause-why : goal.returns-in-Ok-None-clause-why
returns-in-Ok-None-clause-why g c one =
    let why = c.refuse.ensures.why one in record {
      read = c.in-Ok.bytes.items;
      why = why.0;
      consumed = c.in-Ok.ensures.ok.0;
      is_why = subst (λ bytes. WhyNoHistory bytes why.0) c.deref-in-Ok-None.ensures.value why.1;
      is_told = why.2;
    }
