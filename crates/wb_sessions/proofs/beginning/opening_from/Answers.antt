use Rattle.std.proofs.Common.{[], ◌∙◌, Some, ap, inl, inr, refl, rules, subst, sym}
use Rattle.std.specs.Io.KnownBytes.{Consumes}
use Rattle.wb_keeping.specs.Opening.{IsOpening}
use Rattle.wb_sessions.specs.Checking.{IsNoRecord}
use Rattle.wb_sessions.specs.Reasons.{look_of}
use Rattle.wb_sessions.specs.Resuming.{HasNoEnd, IsRecord, left_in}
use Rattle.wb_sessions.proofs.Begun.{put_front}
use Rattle.wb_sessions.proofs.Opening.{nothing_more, of_none, of_some}
use Rattle.wb_sessions.proofs.Telling.{or_fault}
use Rattle.wb_sessions.proofs.beginning.opening_from.Goals as goal

pub returns-in_default-clause-refused : goal.returns-in_default-clause-refused
returns-in_default-clause-refused g c =
    let says = c.say.ensures.says in
    let none = subst HasNoEnd c.deref.ensures.value (of_none c.parts.result (HasNoEnd c.deref.result.now) (search rules) c.parts.ensures.none) in
    (c.in-Ok.bytes.items, c.in-Ok.ensures.ok.0, (says.0, says.1, inl (inl none, says.2)))

pub returns-in-Ok-put_back-clause-text : goal.returns-in-Ok-put_back-clause-text
returns-in-Ok-put_back-clause-text g c =
    let front = c.in-Some.front.now in
    let parts = c.in-Some.ensures.some in
    let bytes_are = sym c.deref.ensures.value ∙ parts.0 in
    let told = of_some c.in-Ok-Some.field-0 (λ o. IsOpening o × IsRecord front o.history) c.in-Ok-Some.opening (search rules) c.in-Ok-Some.ensures.some in (
      front,
      subst (λ left. Consumes (left_in g.R.Source.remaining c.args.reader.now) left front) (sym c.in-Ok-put_back.ensures.ok)
          (put_front _ _ c.in-Ok.bytes.items front c.in-Some.behind.now c.in-Ok.ensures.ok.0 bytes_are),
      parts.1,
      told.1,
    )

pub returns-in-Ok-None-clause-refused : goal.returns-in-Ok-None-clause-refused
returns-in-Ok-None-clause-refused g c =
    let says = c.refuse.ensures.says in
    let parts = c.in-Some.ensures.some in
    let none = of_none c.in-Ok-None.field-0 (IsNoRecord c.in-Some.front.now) (search rules) c.in-Ok-None.ensures.none in (
      c.in-Ok.bytes.items,
      c.in-Ok.ensures.ok.0,
      (
        says.0,
        says.1,
        or_fault (inr (c.in-Some.front.now, c.in-Some.behind.now, sym c.deref.ensures.value ∙ parts.0, parts.1, none)) says.2,
      ),
    )

pub returns-in-Ok-Some-clause-refused : goal.returns-in-Ok-Some-clause-refused
returns-in-Ok-Some-clause-refused g c =
    let bytes = c.in-Ok.bytes.items in
    let kept = subst (λ r. Consumes (left_in g.R.Source.remaining c.args.reader.now) (left_in g.R.Source.remaining r) bytes)
    (sym c.in-Err-put_back.ensures.err) c.in-Ok.ensures.ok.0 in
    (bytes, kept, ([], nothing_more _, inr (inr refl, refl)))

pub returns-in_default-clause-why : goal.returns-in_default-clause-why
returns-in_default-clause-why g c one =
    let bytes = c.in-Ok.bytes.items in record {
      read = bytes;
      why = look_of bytes;
      consumed = c.in-Ok.ensures.ok.0;
      is_why = inl (subst HasNoEnd c.deref.ensures.value (of_none c.parts.result (HasNoEnd c.deref.result.now) (search rules) c.parts.ensures.none), refl);
      is_told = ap Some (c.look_of.ensures ∙ ap look_of c.deref-in_default.ensures.value);
    }

pub returns-in-Ok-None-clause-why : goal.returns-in-Ok-None-clause-why
returns-in-Ok-None-clause-why g c one =
    let parts = c.in-Some.ensures.some in
    let why = c.refuse.ensures.why one in record {
      read = c.in-Ok.bytes.items;
      why = why.0;
      consumed = c.in-Ok.ensures.ok.0;
      is_why = inr (c.in-Some.front.now, c.in-Some.behind.now, sym c.deref.ensures.value ∙ parts.0, parts.1, why.1);
      is_told = why.2;
    }
