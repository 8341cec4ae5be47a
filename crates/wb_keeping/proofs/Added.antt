-- Lines of requests, one after another.
use Rattle.std.proofs.Common.{◌≡◌, ◌≢◌, ◌⊎◌, inl, inr, ℕ, zero, suc, ◌+◌, ◌<◌, List, [], ◌∷◌, ◌++◌, length, take, get_or, Some, Result, Ok, Err, OnOk, IfOk, refl, sym, ◌∙◌, ap}
use Rattle.std.proofs.Common.{subst, arith, append-nil, append_assoc}
use Rattle.wb_lines.specs.Lines.{IsUnbroken}
use Rattle.wb_edit.specs.declared.edit.Edit.{Edit}
use Rattle.wb_history.specs.Past.{Past}
use Rattle.wb_edit.specs.declared.refusal.Refusal.{Refusal}
use Rattle.wb_edit.specs.declared.refusal.Refusal.TheVariants.{NoMemory}
use Rattle.wb_requests.specs.Requests.{request}
use Rattle.wb_requests.specs.declared.requests.request.Request.{Request}
use Rattle.wb_requests.specs.declared.requests.request.Request.TheVariants.{Change, Undo}
use Rattle.wb_requests.specs.Wire.Encoded.{request_data, request_line}
use Rattle.wb_requests.specs.Wire.Proper.{IsProperRequest}
use Rattle.wb_machine.specs.Machine.{Changes, Step, StepIfRead, NothingDone}
use Rattle.wb_machine.specs.Replies.{reply_of}
use Rattle.wb_machine.specs.declared.replies.reply.Reply.{Reply}
use Rattle.wb_machine.specs.declared.replies.reply.Reply.TheVariants.{Edited, Refused}
use Rattle.wb_machine.proofs.HistoryTexts.Unbroken.{unbroken_value}
use Rattle.wb_keeping.specs.Granting.Granting.{AreLinesOf, AddsLinesOf, AddsIfEdited, Answers, IsLineOf, IsOther, changes_made, undos_made, undos_of}

-- ---- one line

pub unbroken_line : (asked : Request) (line : List ℕ) → line ≡ request_line asked → IsUnbroken line
unbroken_line asked line is = subst IsUnbroken (sym is) (unbroken_value (request_data asked))

pub line_is : (asked : Request) (line : List ℕ) → line ≡ request_line asked → (IsProperRequest asked → request line ≡ Ok asked) → IsProperRequest asked →
    IsLineOf asked line
line_is asked line text read proper = record { text = text; read_back = read proper }

pub pushed : {X E : Type 0} (r : Result X E) (asked : Request) (line : List ℕ) (old new : List (List ℕ)) → IsLineOf asked line →
    OnOk r (new ≡ old ++ line ∷ []) → OnOk r (AddsLinesOf (asked ∷ []) old new)
pushed (Ok x) asked line old new is added = (line ∷ [], (is, tt), added)
pushed (Err e) asked line old new is added = tt

-- ---- lists of lines

pub adds_none : (lines : List (List ℕ)) → AddsLinesOf [] lines lines
adds_none lines = ([], tt, sym (append-nil lines))

lines_more : (us vs : List Request) (ls ms : List (List ℕ)) → AreLinesOf us ls → AreLinesOf vs ms → AreLinesOf (us ++ vs) (ls ++ ms)
lines_more [] vs [] ms a b = b
lines_more [] vs (l ∷ ls) ms a b = absurd a
lines_more (x ∷ us) vs [] ms a b = absurd a
lines_more (x ∷ us) vs (l ∷ ls) ms a b = (a.0, lines_more us vs ls ms a.1 b)

pub adds_more : (us vs : List Request) (old mid new : List (List ℕ)) → AddsLinesOf us old mid → AddsLinesOf vs mid new → AddsLinesOf (us ++ vs) old new
adds_more us vs old mid new a b = (a.0 ++ b.0, lines_more us vs a.0 b.0 a.1 b.1, b.2 ∙ ap (λ (ls : List (List ℕ)). ls ++ b.0) a.2 ∙ append_assoc old a.0 b.0)

undos_next : (ns : List ℕ) (i : ℕ) → i < length ns → undos_of (take (suc i) ns) ≡ undos_of (take i ns) ++ Undo (Some (get_or ns i 0)) ∷ []
undos_next [] i h = absurd (omega (arith, h))
undos_next (m ∷ ns) zero h = refl
undos_next (m ∷ ns) (suc i) h = ap (λ (rs : List Request). Undo (Some m) ∷ rs) (undos_next ns i (omega (arith, h)))

pub undos_more : (ns : List ℕ) (i : ℕ) (old mid new : List (List ℕ)) → i < length ns → AddsLinesOf (undos_of (take i ns)) old mid →
    AddsLinesOf (Undo (Some (get_or ns i 0)) ∷ []) mid new → AddsLinesOf (undos_of (take (i + 1) ns)) old new
undos_more ns i old mid new h before one =
    let more = adds_more (undos_of (take i ns)) (Undo (Some (get_or ns i 0)) ∷ []) old mid new before one in
    let next : i + 1 ≡ suc i = omega arith in
    let is : undos_of (take (i + 1) ns) ≡ undos_of (take i ns) ++ Undo (Some (get_or ns i 0)) ∷ [] = ap (λ (j : ℕ). undos_of (take j ns)) next ∙ undos_next ns i h in
    subst (λ (asked : List Request). AddsLinesOf asked old new) (sym is) more

-- ---- an answered request

pub edit_added : (p q : Past) (e : Edit) (r : Reply) (line : List ℕ) (old new : List (List ℕ)) → Changes p e r q → IsLineOf (Change e) line →
    AddsIfEdited r line old new → AddsLinesOf (changes_made r (Ok (Change e))) old new
edit_added p q e (Edited k n) line old new step is added = (line ∷ [], (is, tt), added)
edit_added p q e (Refused why) line old new step is added = subst (λ ls. AddsLinesOf [] old ls) (sym added) (adds_none old)
edit_added p q e r line old new step is added = absurd step

pub is_other : (asked : Request) → ((e : Edit) → asked ≡ Change e → ⊥) → IsOther asked
is_other (Change e) h = h e refl
is_other asked h = tt

other_made : (asked : Request) (r : Reply) → IsOther asked → undos_made r ≡ changes_made r (Ok asked)
other_made (Change e) r other = absurd other
other_made asked (Edited k n) other = refl
other_made asked r other = refl

pub other_added : (asked : Request) (r : Reply) (old new : List (List ℕ)) → IsOther asked → AddsLinesOf (undos_made r) old new →
    AddsLinesOf (changes_made r (Ok asked)) old new
other_added asked r old new other added = subst (λ (rs : List Request). AddsLinesOf rs old new) (other_made asked r other) added

-- ---- an answered line

pub refusal_read : (p : Past) (asked : Result Request Refusal) (why : Refusal) → (why ≢ NoMemory → asked ≡ Err why) →
    StepIfRead p asked (Refused why) p ⊎ NothingDone p (Refused why) p
refusal_read p asked NoMemory h = inr (refl, refl)
refusal_read p asked why h = inl (subst (λ a. StepIfRead p a (Refused why) p) (sym (h (λ e. cc))) (refl, refl))

pub answered_read : {E : Type 0} (p q : Past) (asked : Request) (read : Result Request Refusal) (r : Result Reply E) (old new : List (List ℕ)) → read ≡ Ok asked →
    IfOk r (λ reply. (Step p asked reply q ⊎ NothingDone p reply q) × AddsLinesOf (changes_made reply (Ok asked)) old new) →
    IfOk r (λ reply. (StepIfRead p read reply q ⊎ NothingDone p reply q) × AddsLinesOf (changes_made reply read) old new)
answered_read p q asked read r old new is h =
    subst (λ a. IfOk r (λ reply. (StepIfRead p a reply q ⊎ NothingDone p reply q) × AddsLinesOf (changes_made reply a) old new)) (sym is) h

pub answered : (p q : Past) (line : List ℕ) (reply : Reply) (text : List ℕ) (old new : List (List ℕ)) →
    (StepIfRead p (request line) reply q ⊎ NothingDone p reply q) × AddsLinesOf (changes_made reply (request line)) old new → text ≡ reply_of reply →
    (made : List (List ℕ)) × Answers p line text made q × (new ≡ old ++ made)
answered p q line reply text old new h is = (h.1.0, record { reply = reply; is_reply = h.0; is_text = is; is_made = h.1.1 }, h.1.2)
