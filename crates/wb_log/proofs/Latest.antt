-- The latest edit in force.
use Rattle.std.proofs.Common.{◌≡◌, ℕ, zero, suc, ◌+◌, ◌≤◌, inl, inr, Bool, true, false, List, [], ◌∷◌, drop, zero-add, suc-add, Option, Some, None, is_some}
use Rattle.std.proofs.Common.{option_map, Err, slice_get, refl, sym, ap, ◌∙◌, arith}
use Rattle.std.proofs.Math.Nat.{eq-or-lt_of_le}
use Rattle.selective_undo.specs.Edit.{Trace}
use Rattle.selective_undo.specs.History.{undone, traces, InForce, IsLast}
use Rattle.selective_undo.specs.Log.{Footprint, footprint_of, footprints, blocks_undo, first_from}
use Rattle.selective_undo.proofs.Log.{get-map, footprint_there}
use Rattle.wb_cells.specs.Cells.{Cells}
use Rattle.wb_cells.specs.Schema.{workbook}
use Rattle.wb_log.specs.declared.entry.LoggedEdit as kept
use Rattle.wb_log.specs.declared.entry.UndoData.{UndoData}
use Rattle.wb_edit.specs.declared.refusal.Refusal.{Refusal}
use Rattle.wb_edit.specs.declared.refusal.Refusal.TheVariants.{BadRequest, BadLiteral, Refused, NoSuchEdit, NotInForce, InForce as IsInForce, Blocked}
use Rattle.wb_edit.specs.declared.refusal.Refusal.TheVariants.{RefusedInPlace, NoMemory, StrangePass}
use Rattle.wb_log.specs.Past.{entry_at}
use Rattle.wb_log.specs.Replies.{UndoReply, LastReply}
use Rattle.wb_log.specs.Kept.{footprint, kept_in, kept_all, Shows, numbered, numbered_entries, entries_meant, IsLatest, MayUndo, undo_blocker}
use Rattle.wb_log.proofs.Entries.{history-log, kept-log}

-- ---- in what is kept

some_footprint : (o : Option UndoData) → is_some o ≡ true → (f : Footprint workbook) × (option_map (λ k. footprint k.footprint k.inverse) o ≡ Some f)
some_footprint (Some k) e = (footprint k.footprint k.inverse, refl)
some_footprint None e = cc

no_footprint : (o : Option UndoData) → is_some o ≡ false → option_map (λ k. footprint k.footprint k.inverse) o ≡ None
no_footprint (Some k) e = cc
no_footprint None e = refl

kept_at : (es : List kept.LoggedEdit) (p : ℕ) (x : kept.LoggedEdit) → slice_get es p ≡ Some x → slice_get (kept_all es) p ≡ Some (kept_in x)
kept_at es p x is = get-map kept_in es p ∙ ap (option_map kept_in) is

pub is_latest : (es : List kept.LoggedEdit) (p : ℕ) (x : kept.LoggedEdit) → slice_get es p ≡ Some x → is_some x.kept ≡ true →
    ((q : ℕ) (g : Footprint workbook) → suc p ≤ q → slice_get (kept_all es) q ≡ Some (Some g) → ⊥) → IsLatest (kept_all es) (Some p)
is_latest es p x is there none =
    let f = some_footprint x.kept there in
    (f.0, kept_at es p x is ∙ ap Some f.1, λ q g e. let not : suc p ≤ q → ⊥ = λ low. none q g low e in omega (arith, not))

pub still_none : (es : List kept.LoggedEdit) (p : ℕ) (x : kept.LoggedEdit) → slice_get es p ≡ Some x → is_some x.kept ≡ false →
    ((q : ℕ) (g : Footprint workbook) → suc p ≤ q → slice_get (kept_all es) q ≡ Some (Some g) → ⊥)
    → (q : ℕ) (g : Footprint workbook) → p ≤ q → slice_get (kept_all es) q ≡ Some (Some g) → ⊥
still_none es p x is gone none q g low e =
    elim (eq-or-lt_of_le low) [
      | inl same ↦
          let here : slice_get (kept_all es) p ≡ Some None = kept_at es p x is ∙ ap Some (no_footprint x.kept gone) in
          let there : slice_get (kept_all es) p ≡ Some (Some g) = ap (slice_get (kept_all es)) same ∙ e in
          cc
      | inr later ↦ none q g later e
    ]

-- ---- among the traces

footprints_are : (s : Cells) (es : List kept.LoggedEdit) → Shows es s → footprints (traces (entries_meant es)) ≡ kept_all es
footprints_are s es shows = ap (λ h. footprints (traces h)) (sym (history-log es)) ∙ sym shows.footprints ∙ kept-log es

kept_of : (s : Cells) (es : List kept.LoggedEdit) → Shows es s → (j : ℕ) (u : Trace workbook) → InForce (traces (entries_meant es)) j u →
    slice_get (kept_all es) j ≡ Some (Some (footprint_of u))
kept_of s es shows j u there = ap (λ fs. slice_get fs j) (sym (footprints_are s es shows)) ∙ footprint_there (traces (entries_meant es)) j u there

pub latest_is_last : (s : Cells) (es : List kept.LoggedEdit) (p : ℕ) → Shows es s → IsLatest (kept_all es) (Some p) → IsLast (traces (entries_meant es)) p
latest_is_last s es p shows latest j u there = latest.2 j (footprint_of u) (kept_of s es shows j u there)

pub none_in_force : (s : Cells) (es : List kept.LoggedEdit) → Shows es s → IsLatest (kept_all es) None → (j : ℕ) (t : Trace workbook) →
    InForce (traces (entries_meant es)) j t → ⊥
none_in_force s es shows latest j t there = latest j (footprint_of t) (kept_of s es shows j t there)

-- ---- its undo is not refused but for want of memory

here_is : (o : Option kept.LoggedEdit) (f : Footprint workbook) → option_map kept_in o ≡ Some (Some f) → (x : kept.LoggedEdit) × (o ≡ Some x) × (kept_in x ≡ Some f)
here_is (Some x) f e = let h : kept_in x ≡ Some f = cc in (x, refl, h)
here_is None f e = cc

on_of : (o : Option UndoData) (f : Footprint workbook) → option_map (λ k. footprint k.footprint k.inverse) o ≡ Some f → is_some o ≡ true
on_of (Some k) f e = refl
on_of None f e = cc

-- ---- nothing blocks its undo

none_first : (p : Option (Footprint workbook) → Bool) → p None ≡ false → (ks : List (Option (Footprint workbook))) (i : ℕ) →
    ((q : ℕ) (g : Footprint workbook) → slice_get ks q ≡ Some (Some g) → ⊥) → first_from p i ks ≡ None
none_first p off [] i none = refl
none_first p off (None ∷ ks) i none = rw off (none_first p off ks (i + 1) (λ q g e. none (suc q) g e))
none_first p off (Some f ∷ ks) i none = absurd (none 0 f refl)

later_at : (ks : List (Option (Footprint workbook))) (n q : ℕ) → slice_get (drop n ks) q ≡ slice_get ks (n + q)
later_at ks zero q = ap (slice_get ks) (sym (zero-add q))
later_at [] (suc n) q = refl
later_at (k ∷ ks) (suc n) q = later_at ks n q ∙ ap (slice_get (k ∷ ks)) (sym (suc-add n q))

pub latest_is_free : (es : List kept.LoggedEdit) (p : ℕ) → IsLatest (kept_all es) (Some p) → MayUndo es p None
latest_is_free es p latest =
    let x = here_is (slice_get es p) latest.0 (sym (get-map kept_in es p) ∙ latest.1) in
    let none : first_from (blocks_undo latest.0.touched) (p + 2) (drop (p + 1) (kept_all es)) ≡ None =
    none_first (blocks_undo latest.0.touched) refl (drop (p + 1) (kept_all es)) (p + 2)
    (λ q g e. let low = latest.2 (p + 1 + q) g (sym (later_at (kept_all es) (p + 1) q) ∙ e) in absurd (omega (arith, low))) in
    (x.0, x.1, sym (ap (undo_blocker es p) x.2 ∙ ap (option_map Blocked) none))

pub latest_refused : (s : Cells) (es : List kept.LoggedEdit) (p : ℕ) (why : Refusal) → Shows es s → IsLatest (kept_all es) (Some p) →
    UndoReply (entries_meant es) p (Err why) → LastReply (entries_meant es) (Err why)
latest_refused s es p NoSuchEdit shows latest reply =
    let x = here_is (slice_get es p) latest.0 (sym (get-map kept_in es p) ∙ latest.1) in
    let there = get-map (λ y. entry_at y.edit y.in_force) (numbered_entries es) p ∙
    ap (option_map (λ y. entry_at y.edit y.in_force)) (get-map numbered es p ∙ ap (option_map numbered) x.1) in
    absurd (none_some (sym reply ∙ there))
  where
    none_some : {A : Type 0} {a : A} → None ≡ Some a → ⊥
    none_some e = cc
latest_refused s es p NotInForce shows latest reply =
    let x = here_is (slice_get es p) latest.0 (sym (get-map kept_in es p) ∙ latest.1) in
    let there = get-map (λ y. entry_at y.edit y.in_force) (numbered_entries es) p ∙
    ap (option_map (λ y. entry_at y.edit y.in_force)) (get-map numbered es p ∙ ap (option_map numbered) x.1)
    ∙ ap (λ b. Some (entry_at x.0.edit b)) (on_of x.0.kept latest.0 x.2) in
    let same : Some (undone reply.0) ≡ Some (entry_at x.0.edit true) = sym reply.1 ∙ there in
    cc
latest_refused s es p (Blocked by) shows latest (j, number, least) =
    let last = latest_is_last s es p shows latest j least.holds.of_j least.holds.j_in_force in
    absurd (omega (arith, last, least.holds.later))
latest_refused s es p NoMemory shows latest (t, can) = (p, t, can.in_force)
latest_refused s es p BadRequest shows latest reply = reply
latest_refused s es p BadLiteral shows latest reply = reply
latest_refused s es p (Refused e) shows latest reply = reply
latest_refused s es p IsInForce shows latest reply = reply
latest_refused s es p (RefusedInPlace e) shows latest reply = reply
latest_refused s es p StrangePass shows latest reply = reply
