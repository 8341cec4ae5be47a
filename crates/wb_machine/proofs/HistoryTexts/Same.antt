-- No two histories share a text.
use Rattle.std.proofs.Common.{◌≡◌, inl, inr, ℕ, zero, suc, ◌<◌, arith, List, [], ◌∷◌, ◌++◌, length, codes, sym, ap, ◌∙◌, subst, Ok}
use Rattle.std.proofs.lemmas.List.{append-nil, append_assoc, length-append}
use Rattle.wb_edit.specs.declared.edit.Edit.{Edit}
use Rattle.wb_history.specs.Past.{Numbered}
use Rattle.wb_requests.specs.Requests.{request}
use Rattle.wb_requests.specs.declared.requests.request.Request.TheVariants.{Change}
use Rattle.wb_requests.specs.Wire.Encoded.{request_line}
use Rattle.wb_machine.specs.Histories.Laws.{OneTextOneHistory}
use Rattle.wb_history.specs.Restored.{one_of}
use Rattle.wb_machine.specs.Histories.Text.{said, AreSaid, IsSaid}
use Rattle.wb_machine.specs.Histories.Lines.{marked_at, heading, below}
use Rattle.wb_machine.proofs.HistoryTexts.LastLine.{same_last}
use Rattle.wb_machine.proofs.HistoryTexts.Heading.{count_line, heading_last, count_unbroken, count_unmarked}
use Rattle.wb_machine.proofs.HistoryTexts.Below.{unbroken_said, marked_said, below_more, last_or_none, said_front, text_is}
use Rattle.wb_machine.proofs.HistoryTexts.Steps.{none_some, same_marked, unbroken_end}

same_change : (e f : Edit) → Ok (Change e) ≡ request (request_line (Change f)) → request (request_line (Change f)) ≡ Ok (Change f) → e ≡ f
same_change e f p q = let r : Ok (Change e) ≡ Ok (Change f) = p ∙ q in cc

same_said : (x y : Numbered) → IsSaid x.edit → IsSaid y.edit → said x ≡ said y → x ≡ y
same_said x y p q e =
    let same = same_marked x.in_force y.in_force (request_line (Change x.edit)) (request_line (Change y.edit))
    (sym (marked_said x) ∙ ap marked_at e ∙ marked_said y) in
    let edits = same_change x.edit y.edit (sym p ∙ ap request same.1) q in
    ap (λ z. one_of z x.in_force) edits ∙ ap (one_of y.edit) same.0

last_here : (p gs es : List Numbered) (x : Numbered) → es ≡ gs ++ x ∷ [] → heading p ++ below es ≡ (heading p ++ below gs) ++ 10 ∷ said x
last_here p gs es x e = ap (λ hs. heading p ++ below hs) e ∙ ap (λ t. heading p ++ t) (below_more gs x) ∙
    sym (append_assoc (heading p) (below gs) (10 ∷ said x))

none_here : (p es : List Numbered) → es ≡ [] → heading p ++ below es ≡ (heading_last p).0 ++ 10 ∷ count_line p
none_here p es e = ap (λ hs. heading p ++ below hs) e ∙ append-nil (heading p) ∙ (heading_last p).1

-- the line of an edit is not the last of a heading
other_line : (p : List Numbered) (xs ys : List ℕ) (x : Numbered) → xs ++ 10 ∷ count_line p ≡ ys ++ 10 ∷ said x → ⊥
other_line p xs ys x e =
    let same = same_last xs ys (count_line p) (said x) e (count_unbroken p) (unbroken_said x) in
    none_some _ (marked_at (count_line p)) (count_unmarked p) (ap marked_at same.1 ∙ marked_said x)

abbrev Same : ℕ → Type 0
Same n = (p q es fs : List Numbered) → length es < n → AreSaid es → AreSaid fs → heading p ++ below es ≡ heading q ++ below fs → es ≡ fs

both_end : (n : ℕ) → Same n → (p q es fs gs hs : List Numbered) (x y : Numbered) → length es < suc n → es ≡ gs ++ x ∷ [] → fs ≡ hs ++ y ∷ [] → AreSaid es →
    AreSaid fs
    → heading p ++ below es ≡ heading q ++ below fs → es ≡ fs
both_end n shorter p q es fs gs hs x y few ends also told and_told e =
    let same = same_last (heading p ++ below gs) (heading q ++ below hs) (said x) (said y) (sym (last_here p gs es x ends) ∙ e ∙ last_here q hs fs y also)
    (unbroken_said x) (unbroken_said y) in
    let one = said_front gs x (subst AreSaid ends told) in
    let other = said_front hs y (subst AreSaid also and_told) in
    let count = length-append gs (x ∷ []) in
    let less : length gs < n = omega (arith, few, ap length ends, count) in
    ends ∙ ap (λ ks. ks ++ x ∷ []) (shorter p q gs hs less one.0 other.0 same.0) ∙ ap (λ z. hs ++ z ∷ []) (same_said x y one.1 other.1 same.1) ∙ sym also

same_edits : (n : ℕ) → Same n
same_edits zero p q es fs few told also e = absurd (omega (arith, few))
same_edits (suc n) p q es fs few told also e =
    elim (last_or_none es) [
      | inl none ↦
          elim (last_or_none fs) [
            | inl empty ↦ none ∙ sym empty
            | inr some ↦ absurd (other_line p (heading_last p).0 (heading q ++ below some.0) some.1
                (sym (none_here p es none) ∙ e ∙ last_here q some.0 fs some.1 some.2))
          ]
      | inr last ↦
          elim (last_or_none fs) [
            | inl empty ↦ absurd (other_line q (heading_last q).0 (heading p ++ below last.0) last.1
                (sym (none_here q fs empty) ∙ sym e ∙ last_here p last.0 es last.1 last.2))
            | inr some ↦ both_end n (same_edits n) p q es fs last.0 some.0 last.1 some.1 few last.2 some.2 told also e
          ]
    ]

before_end : (a b : List ℕ) → a ++ codes "\nend\n" ≡ b ++ codes "\nend\n" → a ≡ b
before_end a b e =
    let first = same_last (a ++ codes "\nend") (b ++ codes "\nend") [] []
    (append_assoc a (codes "\nend") (10 ∷ []) ∙ e ∙ sym (append_assoc b (codes "\nend") (10 ∷ []))) tt tt in
    (same_last a b (codes "end") (codes "end") first.0 unbroken_end unbroken_end).0

pub one_history : OneTextOneHistory
one_history es fs h k e =
    let same = before_end (heading es ++ below es) (heading fs ++ below fs) (sym (text_is es) ∙ e ∙ text_is fs) in
    same_edits (suc (length es)) es fs es fs (omega arith) h.1 k.1 same
