use Rattle.std.proofs.Common.{◌≡◌, ◌∙◌, inr, rules, subst, sym}
use Rattle.wb_text.specs.Texts.Books.{IsBookText}
use Rattle.wb_sessions.specs.Reasons.{WhyNoBook}
use Rattle.wb_sessions.specs.Upgrading.{HasNoBook, UpgradesBook}
use Rattle.wb_sessions.proofs.Opening.{of_none, of_some}
use Rattle.wb_sessions.proofs.Telling.{no_book_of_1, or_fault, upgrades_book}
use Rattle.wb_sessions.proofs.upgrading.upgrade_with.Goals as goal

pub upgrade_text-requires : goal.upgrade_text-requires
upgrade_text-requires g c =
    let bytes = c.deref.result.now in
    let some = of_some c.in-Ok-Some.field-0 (λ t. (t.now ≡ bytes) × IsBookText bytes) c.in-Ok-Some.text (search rules) c.in-Ok-Some.ensures.some in
    subst IsBookText (sym some.0) some.1

pub returns-in-Ok-Some-clause-upgrades : goal.returns-in-Ok-Some-clause-upgrades
returns-in-Ok-Some-clause-upgrades g c =
    let bytes = c.deref.result.now in
    let read = c.in-Ok.bytes.items in
    let some = of_some c.in-Ok-Some.field-0 (λ t. (t.now ≡ bytes) × IsBookText bytes) c.in-Ok-Some.text (search rules) c.in-Ok-Some.ensures.some in
    let done = c.upgrade_text.ensures.upgrades in (
      read,
      c.in-Ok.ensures.ok.0,
      (done.0, done.1, upgrades_book read c.upgrade_text.result done.0 (subst (λ t. UpgradesBook t c.upgrade_text.result done.0) (some.0 ∙ c.deref.ensures.value) done.2)),
    )

pub returns-in-Ok-None-clause-upgrades : goal.returns-in-Ok-None-clause-upgrades
returns-in-Ok-None-clause-upgrades g c =
    let says = c.refuse.ensures.says in
    let none = of_none c.in-Ok-None.field-0 (HasNoBook c.deref.result.now) (search rules) c.in-Ok-None.ensures.none in
    (c.in-Ok.bytes.items, c.in-Ok.ensures.ok.0, (says.0, says.1, inr (or_fault (subst HasNoBook c.deref.ensures.value none) says.2)))

pub returns-in-Ok-None-clause-why : goal.returns-in-Ok-None-clause-why
returns-in-Ok-None-clause-why g c one =
    let why = c.refuse.ensures.why one in record {
      read = c.in-Ok.bytes.items;
      why = why.0;
      consumed = c.in-Ok.ensures.ok.0;
      is_why = subst (λ bytes. WhyNoBook bytes why.0) c.deref-in-Ok-None.ensures.value why.1;
      is_told = why.2;
    }

pub returns-in-Ok-Some-clause-why : goal.returns-in-Ok-Some-clause-why
returns-in-Ok-Some-clause-why g c one =
    let done = c.upgrade_text.ensures.upgrades in
    absurd (no_book_of_1 _ _ done.0 one done.2)
