-- Each line of a file counts, and the edits of its history are those of its lines, in order.
use Rattle.std.proofs.Common.{◌≡◌, ◌≢◌, ◌⊎◌, inl, inr, ⊎_elim, ℕ, zero, suc, ◌-◌, Bool, true, false, not, List, [], ◌∷◌, ◌++◌, length, Some, Result, Ok, refl, sym, ◌∙◌, ap, subst, arith, slice_get, append_assoc, append-nil}
use Rattle.std.specs.FinMap.{empty}
use Rattle.selective_undo.specs.Edit.{EditTree}
use Rattle.selective_undo.specs.History.{done, undone}
use Rattle.selective_undo.proofs.Inverses.{edit_at}
use Rattle.wb_kept.specs.Runs.{Leads}
use Rattle.wb_cells.specs.Schema.{workbook}
use Rattle.wb_edit.specs.declared.edit.Edit.{Edit}
use Rattle.wb_history.specs.Past.{Numbered, Past, meant, entry_at, set_force, force_of}
use Rattle.wb_edit.specs.declared.refusal.Refusal.{Refusal}
use Rattle.wb_requests.specs.Requests.{request}
use Rattle.wb_requests.specs.declared.requests.request.Request.{Request}
use Rattle.wb_requests.specs.declared.requests.request.Request.TheVariants.{Change, Undo, Redo}
use Rattle.wb_keeping.specs.Granting.Granting.{GrantsRequest, GrantsAsked, edits_of, edit_asked, edits_asked}
use Rattle.wb_keeping.specs.Granting.Leading.{asked_one}

-- ---- whether an edit is in force, by the history of the definitions

on_mark : (d : Edit) (b : Bool) (e : EditTree workbook) → Some (entry_at d b) ≡ Some (done e) → Some b ≡ Some true
on_mark d true e is = refl
on_mark d false e is = cc

off_mark : (d : Edit) (b : Bool) (e : EditTree workbook) → Some (entry_at d b) ≡ Some (undone e) → Some b ≡ Some false
off_mark d true e is = cc
off_mark d false e is = refl

in_force : (es : List Numbered) (k : ℕ) (e : EditTree workbook) → slice_get (meant es) k ≡ Some (done e) → force_of es (suc k) ≡ Some true
in_force [] k e is = cc
in_force (x ∷ es) zero e is = on_mark x.edit x.in_force e is
in_force (x ∷ es) (suc k) e is = in_force es k e is

out_of_force : (es : List Numbered) (k : ℕ) (e : EditTree workbook) → slice_get (meant es) k ≡ Some (undone e) → force_of es (suc k) ≡ Some false
out_of_force [] k e is = cc
out_of_force (x ∷ es) zero e is = off_mark x.edit x.in_force e is
out_of_force (x ∷ es) (suc k) e is = out_of_force es k e is

-- ---- what a mark that is set leaves

set_here : (b c : Bool) (k : ℕ) (es : List Numbered) → force_of es (suc k) ≡ Some c → force_of (set_force b k es) (suc k) ≡ Some b
set_here b c k [] is = cc
set_here b c zero (x ∷ es) is = refl
set_here b c (suc k) (x ∷ es) is = set_here b c k es is

set_elsewhere : (b : Bool) (j k : ℕ) (es : List Numbered) → j ≢ k → force_of (set_force b j es) (suc k) ≡ force_of es (suc k)
set_elsewhere b j k [] other = refl
set_elsewhere b zero zero (x ∷ es) other = absurd (other refl)
set_elsewhere b zero (suc k) (x ∷ es) other = refl
set_elsewhere b (suc j) zero (x ∷ es) other = refl
set_elsewhere b (suc j) (suc k) (x ∷ es) other = set_elsewhere b j k es (λ same. other (ap suc same))

set_length : (b : Bool) (k : ℕ) (es : List Numbered) → length (set_force b k es) ≡ length es
set_length b k [] = refl
set_length b zero (x ∷ es) = refl
set_length b (suc k) (x ∷ es) = ap suc (set_length b k es)

set_edits : (b : Bool) (k : ℕ) (es : List Numbered) → edits_of (set_force b k es) ≡ edits_of es
set_edits b k [] = refl
set_edits b zero (x ∷ es) = refl
set_edits b (suc k) (x ∷ es) = ap (λ ds. x.edit ∷ ds) (set_edits b k es)

-- ---- what an edit at the end leaves

with_length : (x : Numbered) (es : List Numbered) → length (es ++ x ∷ []) ≡ suc (length es)
with_length x [] = refl
with_length x (y ∷ es) = ap suc (with_length x es)

with_mark : (x : Numbered) (es : List Numbered) (k : ℕ) (c : Bool) → force_of es (suc k) ≡ Some c → force_of (es ++ x ∷ []) (suc k) ≡ Some c
with_mark x [] k c is = cc
with_mark x (y ∷ es) zero c is = is
with_mark x (y ∷ es) (suc k) c is = with_mark x es k c is

with_edits : (x : Numbered) (es : List Numbered) → edits_of (es ++ x ∷ []) ≡ edits_of es ++ x.edit ∷ []
with_edits x [] = refl
with_edits x (y ∷ es) = ap (λ ds. y.edit ∷ ds) (with_edits x es)

-- ---- a request that is granted turns a mark, or adds an edit

-- edit k, from 0, gets the mark that it hadn't
abbrev Turns : Bool → ℕ → Past → Past → Type 0
Turns b k p q = (force_of p.entries (suc k) ≡ Some (not b)) × (q.entries ≡ set_force b k p.entries)

undo_turns : (p q : Past) (k : ℕ) → GrantsRequest p (Undo (Some k)) q → Turns false (k - 1) p q
undo_turns p q zero (n, (same, reply, out)) = cc
undo_turns p q (suc k) (n, (same, (t, can, count), out)) =
    let found = edit_at (meant p.entries) empty k t can.in_force in
    let here : k ≡ suc k - 1 = omega arith in (
      subst (λ (j : ℕ). force_of p.entries (suc j) ≡ Some true) here (in_force p.entries k found.0 found.1),
      out.entries,
    )

redo_turns : (p q : Past) (k : ℕ) → GrantsRequest p (Redo k) q → Turns true (k - 1) p q
redo_turns p q zero (n, (same, reply, put)) = cc
redo_turns p q (suc k) (n, (same, (t, can, count), put)) =
    let here : k ≡ suc k - 1 = omega arith in (
      subst (λ (j : ℕ). force_of p.entries (suc j) ≡ Some false) here (out_of_force p.entries k can.edit can.out_of_force),
      put.entries,
    )

-- ---- histories that are apart

-- One has an edit more, or of one edit they differ whether it is in force.
abbrev Apart : List Numbered → List Numbered → Type 0
Apart es fs = (length es ≡ suc (length fs)) ⊎ ((k : ℕ) × (b : Bool) × (force_of es (suc k) ≡ Some b) × (force_of fs (suc k) ≡ Some (not b)))

not_same : (b : Bool) → Some b ≡ Some (not b) → ⊥
not_same true is = cc
not_same false is = cc

apart_other : (es fs : List Numbered) → Apart es fs → es ≡ fs → ⊥
apart_other es fs (inl more) same = omega (arith, more, ap length same)
apart_other es fs (inr (k, b, mine, yours)) same = not_same b (sym mine ∙ ap (λ (l : List Numbered). force_of l (suc k)) same ∙ yours)

same_or_not : (j k : ℕ) → (j ≡ k) ⊎ (j ≢ k)
same_or_not zero zero = inl refl
same_or_not zero (suc k) = inr (λ same. omega (arith, same))
same_or_not (suc j) zero = inr (λ same. omega (arith, same))
same_or_not (suc j) (suc k) =
    ⊎_elim (λ same. inl (ap suc same)) (λ other. inr (λ same. other (omega (arith, same)))) (same_or_not j k)

both_appended : (x y : Numbered) (es fs : List Numbered) → Apart es fs → Apart (es ++ x ∷ []) (fs ++ y ∷ [])
both_appended x y es fs (inl more) = inl (with_length x es ∙ ap suc more ∙ ap suc (sym (with_length y fs)))
both_appended x y es fs (inr (k, b, mine, yours)) = inr (k, b, with_mark x es k b mine, with_mark y fs k (not b) yours)

clash : (b c : Bool) → Some b ≡ Some (not c) → Some (not b) ≡ Some (not c) → ⊥
clash true c mine yours = cc
clash false c mine yours = cc

turned_at : (c b : Bool) (j k : ℕ) (es fs : List Numbered) → (j ≡ k) ⊎ (j ≢ k) → force_of es (suc j) ≡ Some (not c) → force_of fs (suc j) ≡ Some (not c) →
    force_of es (suc k) ≡ Some b → force_of fs (suc k) ≡ Some (not b) → Apart (set_force c j es) (set_force c j fs)
turned_at c b j k es fs (inl same) mine_is yours_is mine yours =
    let one : Some b ≡ Some (not c) = sym mine ∙ ap (λ (i : ℕ). force_of es (suc i)) (sym same) ∙ mine_is in
    let two : Some (not b) ≡ Some (not c) = sym yours ∙ ap (λ (i : ℕ). force_of fs (suc i)) (sym same) ∙ yours_is in
    absurd (clash b c one two)
turned_at c b j k es fs (inr other) mine_is yours_is mine yours =
    inr (k, b, set_elsewhere c j k es other ∙ mine, set_elsewhere c j k fs other ∙ yours)

both_turned : (c : Bool) (j : ℕ) (es fs : List Numbered) → force_of es (suc j) ≡ Some (not c) → force_of fs (suc j) ≡ Some (not c) → Apart es fs →
    Apart (set_force c j es) (set_force c j fs)
both_turned c j es fs mine_is yours_is (inl more) = inl (set_length c j es ∙ more ∙ ap suc (sym (set_length c j fs)))
both_turned c j es fs mine_is yours_is (inr (k, b, mine, yours)) = turned_at c b j k es fs (same_or_not j k) mine_is yours_is mine yours

again : (es fs gs hs : List Numbered) → gs ≡ es → hs ≡ fs → Apart es fs → Apart gs hs
again es fs gs hs mine yours apart = subst (λ (l : List Numbered). Apart l hs) (sym mine) (subst (λ (l : List Numbered). Apart es l) (sym yours) apart)

stay_apart : (asked : Request) (p u q v : Past) → GrantsRequest p asked q → GrantsRequest u asked v → Apart p.entries u.entries → Apart q.entries v.entries
stay_apart (Change e) p u q v (k, n, mine) (j, m, yours) apart =
    let x : Numbered = record { edit = e; in_force = true } in
    again (p.entries ++ x ∷ []) (u.entries ++ x ∷ []) q.entries v.entries mine.1.entries yours.1.entries (both_appended x x p.entries u.entries apart)
stay_apart (Undo (Some k)) p u q v mine yours apart =
    let one = undo_turns p q k mine in
    let two = undo_turns u v k yours in
    again (set_force false (k - 1) p.entries) (set_force false (k - 1) u.entries) q.entries v.entries one.1 two.1
    (both_turned false (k - 1) p.entries u.entries one.0 two.0 apart)
stay_apart (Redo k) p u q v mine yours apart =
    let one = redo_turns p q k mine in
    let two = redo_turns u v k yours in
    again (set_force true (k - 1) p.entries) (set_force true (k - 1) u.entries) q.entries v.entries one.1 two.1
    (both_turned true (k - 1) p.entries u.entries one.0 two.0 apart)
stay_apart asked p u q v mine yours apart = absurd mine

-- ---- a line more

turned_apart : (b : Bool) (k : ℕ) (p q : Past) → Turns b k p q → Apart q.entries p.entries
turned_apart b k p q turns =
    inr (k, b, ap (λ (l : List Numbered). force_of l (suc k)) turns.1 ∙ set_here b (not b) k p.entries turns.0, turns.0)

one_more : (asked : Request) (p q : Past) → GrantsRequest p asked q → Apart q.entries p.entries
one_more (Change e) p q (k, n, step) = inl (ap length step.1.entries ∙ with_length (record { edit = e; in_force = true }) p.entries)
one_more (Undo (Some k)) p q granted = turned_apart false (k - 1) p q (undo_turns p q k granted)
one_more (Redo k) p q granted = turned_apart true (k - 1) p q (redo_turns p q k granted)
one_more asked p q granted = absurd granted

lines_apart : (lines : List (List ℕ)) (p u q v : Past) → Apart p.entries u.entries → Leads GrantsAsked p lines q → Leads GrantsAsked u lines v →
    Apart q.entries v.entries
lines_apart [] p u q v apart mine yours =
    again p.entries u.entries q.entries v.entries (ap (λ (x : Past). x.entries) mine) (ap (λ (x : Past). x.entries) yours) apart
lines_apart (line ∷ lines) p u q v apart (m, (a, read, granted), mine) (n, (b, also, other), yours) =
    let both : ◌≡◌ {A = Result Request Refusal} (Ok b) (Ok a) = sym also ∙ read in
    let same : b ≡ a = cc in
    let there : GrantsRequest u a n = subst (λ (x : Request). GrantsRequest u x n) same other in
    lines_apart lines m n q v (stay_apart a p u m n granted there apart) mine yours

pub each_line_counts : (before after : List (List ℕ)) (line : List ℕ) (p q u : Past) → Leads GrantsAsked p (before ++ line ∷ after) q →
    Leads GrantsAsked p (before ++ after) u → q ≢ u
each_line_counts [] after line p q u (m, (asked, read, granted), mine) yours =
    λ same. apart_other q.entries u.entries (lines_apart after m p q u (one_more asked p m granted) mine yours) (ap (λ (x : Past). x.entries) same)
each_line_counts (first ∷ before) after line p q u (m, granted, mine) (n, other, yours) =
    let same : n ≡ m = asked_one p first n m other granted in
    each_line_counts before after line m q u mine (subst (λ (x : Past). Leads GrantsAsked x (before ++ after) u) same yours)

-- ---- the edits, in order

edit_of : (asked : Request) (p q : Past) → GrantsRequest p asked q → edits_of q.entries ≡ edits_of p.entries ++ edit_asked (Ok asked)
edit_of (Change e) p q (k, n, step) = ap edits_of step.1.entries ∙ with_edits (record { edit = e; in_force = true }) p.entries
edit_of (Undo (Some k)) p q (n, step) = ap edits_of step.2.entries ∙ set_edits false (k - 1) p.entries ∙ sym (append-nil (edits_of p.entries))
edit_of (Redo k) p q (n, step) = ap edits_of step.2.entries ∙ set_edits true (k - 1) p.entries ∙ sym (append-nil (edits_of p.entries))
edit_of asked p q granted = absurd granted

pub edits_in_order : (lines : List (List ℕ)) (p q : Past) → Leads GrantsAsked p lines q → edits_of q.entries ≡ edits_of p.entries ++ edits_asked lines
edits_in_order [] p q same = ap (λ (x : Past). edits_of x.entries) same ∙ sym (append-nil (edits_of p.entries))
edits_in_order (line ∷ lines) p q (m, (asked, read, granted), leads) =
    let one : edits_of m.entries ≡ edits_of p.entries ++ edit_asked (request line) =
    edit_of asked p m granted ∙ ap (λ (r : Result Request Refusal). edits_of p.entries ++ edit_asked r) (sym read) in
    edits_in_order lines m q leads ∙ ap (λ ds. ds ++ edits_asked lines) one ∙ append_assoc (edits_of p.entries) (edit_asked (request line)) (edits_asked lines)
