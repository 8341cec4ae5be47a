use Rattle.std.proofs.Common.{◌++◌, ◌∙◌, [], Some, ap, inl, inr, refl, sym, subst, rules}
use Rattle.std.specs.Io.KnownBytes.{Appends, Consumes}
use Rattle.wb_sessions.specs.Checking.{IsNoRecord}
use Rattle.wb_sessions.specs.Resuming.{left_in, HasNoEnd, IsRecord}
use Rattle.wb_sessions.specs.Reasons.{WhyNoOpening, look_of}
use Rattle.wb_sessions.proofs.Telling.{no_end_of_1, or_fault}
use Rattle.wb_statuses.proofs.Faults.{no_fault_of_1}
use Rattle.wb_sessions.proofs.Opening.{nothing_more, of_none, of_some, reads_on, failed_later}
use Rattle.wb_sessions.proofs.resuming.resume_with.Goals as goal

pub returns-clause-resumes : goal.returns-clause-resumes
returns-clause-resumes g c =
    let says = c.say.ensures.says in
    let none = subst HasNoEnd c.deref.ensures.value c.in-None.ensures.none in
    (c.in-Ok.bytes.items, c.in-Ok.ensures.ok.0, (says.0, says.1, inr (inl (inl none, says.2))))

pub returns-in-Ok-None-clause-resumes : goal.returns-in-Ok-None-clause-resumes
returns-in-Ok-None-clause-resumes g c =
    let says = c.refuse.ensures.says in
    let parts = c.in-Some.ensures.some in
    let none = of_none c.in-Ok-None.field-0 (IsNoRecord c.in-Some.front.now) (search rules) c.in-Ok-None.ensures.none in (
      c.in-Ok.bytes.items,
      c.in-Ok.ensures.ok.0,
      (says.0, says.1, inr (or_fault (inr (c.in-Some.front.now, c.in-Some.behind.now, sym c.deref.ensures.value ∙ parts.0, parts.1, none)) says.2)),
    )

pub returns-in-Ok-Some-clause-resumes : goal.returns-in-Ok-Some-clause-resumes
returns-in-Ok-Some-clause-resumes g c =
    let front = c.in-Some.front.now in
    let parts = c.in-Some.ensures.some in
    let bytes_are = sym c.deref.ensures.value ∙ parts.0 in
    let told = of_some c.in-Ok-Some.field-0 (λ h. IsRecord front h) c.in-Ok-Some.history (search rules) c.in-Ok-Some.ensures.some in
    let bytes = c.in-Ok.bytes.items in
    elim c.go_on.ensures.serves [
      | inl s ↦ (
        front ++ s.0,
        reads_on _ _ _ bytes front c.in-Some.behind.now s.0 c.in-Ok.ensures.ok.0 bytes_are s.1,
        (
          s.2.0,
          s.2.1,
          inl (record {
            opening = c.in-Ok-Some.history;
            front = front;
            asked = s.0;
            parts = refl;
            ends = parts.1;
            is_record = told;
            serves =
                s.2.2;
          }),
        ),
      )
      | inr s ↦ (
        bytes,
        subst (λ left. Consumes (left_in g.R.Source.remaining c.args.reader.now) left bytes) (sym s.0) c.in-Ok.ensures.ok.0,
        ([], subst (λ new. Appends (g.W.Sink.contents c.args.writer.now) new []) (sym s.1) (nothing_more _), inr (inr (s.2, refl))),
      )
    ]

pub returns-in-Ok-Some-clause-failed : goal.returns-in-Ok-Some-clause-failed
returns-in-Ok-Some-clause-failed g c h =
    let before = c.in-Ok.ensures.counted in
    failed_later before.0 _ _ _ _ _ before.1 (c.go_on.ensures.failed h)

pub returns-clause-why : goal.returns-clause-why
returns-clause-why g c one =
    let bytes = c.in-Ok.bytes.items in record {
      read = bytes;
      why = look_of bytes;
      consumed = c.in-Ok.ensures.ok.0;
      is_why = inl (subst HasNoEnd c.deref.ensures.value c.in-None.ensures.none, refl);
      is_told = ap Some (c.look_of.ensures ∙ ap look_of c.deref-in-None.ensures.value);
    }

pub returns-in-Ok-None-clause-why : goal.returns-in-Ok-None-clause-why
returns-in-Ok-None-clause-why g c one =
    let parts = c.in-Some.ensures.some in
    let why = c.refuse.ensures.why one in record {
      read = c.in-Ok.bytes.items;
      why = why.0;
      consumed = c.in-Ok.ensures.ok.0;
      is_why = inr (c.in-Some.front.now, c.in-Some.behind.now, sym c.deref.ensures.value ∙ parts.0, parts.1, why.1);
      is_told = why.2;
    }

pub returns-in-Ok-Some-clause-why : goal.returns-in-Ok-Some-clause-why
returns-in-Ok-Some-clause-why g c one = elim c.go_on.ensures.serves [
  | inl s ↦ absurd (no_end_of_1 s.2.2.end (sym s.2.2.is_status ∙ one))
  | inr s ↦ absurd (no_fault_of_1 _ one s.2)
]
