-- The laws of kept logs.
use Rattle.std.proofs.Common.{◌≡◌, ℕ, suc, List, map, drop, take, refl, sym, ap, ◌∙◌, subst, Bool, true, false, ◌||◌, ◌⊎◌, Option, Some, None, option_map, inl}
use Rattle.std.proofs.Common.{inr, Ok, Err, Result, IsOk, slice_get, ◌↔◌, arith}
use Rattle.std.specs.FinMap.{empty}
use Rattle.selective_undo.specs.Edit.{Schema, State, EditTree, Trace, outcome, trace, Needs}
use Rattle.selective_undo.specs.Changes.{apply}
use Rattle.selective_undo.specs.History.{Entry, done, replay, traces, InForce, IsLast, Blocks, CanRedo}
use Rattle.selective_undo.specs.Log.{Footprint, Logged, meets_any, footprint_of, footprints, entry_of, history, planned, blocks_undo, blocks_redo, first_from}
use Rattle.selective_undo.specs.Log.{undo_blocker, redo_blocker, IsKept, Least, BlocksRedo}
use Rattle.selective_undo.specs.Laws.{AcceptLaw, RecordLaw, UndoRecordLaw, RedoRecordLaw, UndoTestLaw, RedoTestLaw, KeptLastLaw, KeptEditLaw, KeptUndoLaw}
use Rattle.selective_undo.specs.Laws.{KeptRedoLaw, RunLaw}
use Rattle.selective_undo.specs.Runs.{Granted, edited, undid, redid, begins, goes_on}
use Rattle.selective_undo.proofs.Inverses.{edit_at, last_law}
use Rattle.selective_undo.proofs.Undo.{undo_law}
use Rattle.selective_undo.proofs.Locality.{needs_true, needs_law}
use Rattle.selective_undo.proofs.Log.{get-map, cases_lt, footprint_there, trace_of, some_footprint, meets_footprint, same_blocks, accepted_append, undo_free}
use Rattle.selective_undo.proofs.Log.{undo_least, redo_free, redo_least, redo_can, first_planned, trace_there, kept_append, kept_undo, kept_redo}

same_least : {P : ℕ → Type 0} (i j : ℕ) → Least P i → Least P j → i ≡ j
same_least i j first second = let a = first.least j second.holds in let b = second.least i first.holds in omega (arith, a, b)

-- A search that answers the least number with the property, or that there is none, decides both.
least_found : {P : ℕ → Type 0} (o : Option ℕ) → ((m : ℕ) → o ≡ Some m → Least P m) → (o ≡ None → (j : ℕ) → P j → ⊥) → (j : ℕ) → (o ≡ Some j) ↔ Least P j
least_found None found absent j = (found j, λ least. absurd (absent refl j least.holds))
least_found (Some m) found absent j = (found j, λ least. ap Some (same_least m j (found m refl) least))

none_found : {P : ℕ → Type 0} (o : Option ℕ) → ((m : ℕ) → o ≡ Some m → Least P m) → ((j : ℕ) → P j → ⊥) → o ≡ None
none_found None found free = refl
none_found (Some m) found free = absurd (free m (found m refl).holds)

ok_is : {A E : Type 0} (r : Result A E) → IsOk r → (x : A) × (r ≡ Ok x)
ok_is (Ok x) is = (x, refl)
ok_is (Err e) is = cc

mapped : {A B : Type 0} (f : A → B) (o : Option A) (y : B) → option_map f o ≡ Some y → (x : A) × ((o ≡ Some x) × (f x ≡ y))
mapped f None y e = cc
mapped f (Some x) y e = (x, (refl, cc))

either : (a b : Bool) → (a ≡ true) ⊎ (b ≡ true) → a || b ≡ true
either true b h = refl
either false b (inl h) = cc
either false b (inr h) = h

module _ {w : Schema} where
  undo_found : (s : State w) (log : List (Logged w)) (k : ℕ) (t : Trace w) → IsKept s log → InForce (traces (history log)) k t → (m : ℕ) →
      undo_blocker log k t.before ≡ Some m → Least (λ i. Blocks (traces (history log)) i k) m
  undo_found s log k t kept is m e =
      let (j, at, least) = undo_least (traces (history log)) k (suc k) m t is (rw (← kept.footprints) e) in
      let same : j ≡ m = omega (arith, at) in
      rw (← same) least

  undo_none : (s : State w) (log : List (Logged w)) (k : ℕ) (t : Trace w) → IsKept s log → InForce (traces (history log)) k t →
      undo_blocker log k t.before ≡ None → (j : ℕ) → Blocks (traces (history log)) j k → ⊥
  undo_none s log k t kept is e = undo_free (traces (history log)) k (suc k) t is (rw (← kept.footprints) e)

  -- the search over what is kept is the search over the traces
  planned_blocker : (s : State w) (log : List (Logged w)) (k : ℕ) (e : EditTree w) → IsKept s log →
      redo_blocker log k (planned e s) ≡ first_from (blocks_redo (footprint_of (trace e s))) (suc k) (drop (suc k) (footprints (traces (history log))))
  planned_blocker s log k e kept = first_planned e s (suc k) (drop (suc k) (map (λ x. x.kept) log)) ∙
      ap (λ fs. first_from (blocks_redo (footprint_of (trace e s))) (suc k) (drop (suc k) fs)) kept.footprints

  redo_found : (s : State w) (log : List (Logged w)) (k : ℕ) (e : EditTree w) → IsKept s log → (m : ℕ) → redo_blocker log k (planned e s) ≡ Some m →
      Least (BlocksRedo (traces (history log)) k (trace e s)) m
  redo_found s log k e kept m is =
      let (j, at, least) = redo_least (traces (history log)) k (suc k) m (trace e s) (sym (planned_blocker s log k e kept) ∙ is) in
      let same : j ≡ m = omega (arith, at) in
      rw (← same) least

  redo_none : (s : State w) (log : List (Logged w)) (k : ℕ) (e : EditTree w) → IsKept s log → redo_blocker log k (planned e s) ≡ None → (j : ℕ) →
      BlocksRedo (traces (history log)) k (trace e s) j → ⊥
  redo_none s log k e kept is = redo_free (traces (history log)) k (suc k) (trace e s) (sym (planned_blocker s log k e kept) ∙ is)

  can_free : (h : List (Entry w)) (k : ℕ) (t : Trace w) → CanRedo h k t → (j : ℕ) → BlocksRedo (traces h) k t j → ⊥
  can_free h k t can j b = elim b.meets [
    | inl need ↦ can.needed_by_none j b.of_j b.later b.j_in_force need
    | inr need ↦ can.needs_none j b.of_j b.later
        b.j_in_force need
  ]

  -- the records are those of the traces
  kept_trace : (s : State w) (log : List (Logged w)) (j : ℕ) (x : Logged w) (f : Footprint w) → IsKept s log → slice_get log j ≡ Some x → x.kept ≡ Some f →
      (u : Trace w) × InForce (traces (history log)) j u × (footprint_of u ≡ f)
  kept_trace s log j x f kept is has = trace_of (traces (history log)) j f
      (ap (λ fs. slice_get fs j) (sym kept.footprints) ∙ get-map (λ x. x.kept) log j ∙ ap (option_map (λ x. x.kept)) is ∙ ap Some has)

  trace_kept : (s : State w) (log : List (Logged w)) (j : ℕ) (u : Trace w) → IsKept s log → InForce (traces (history log)) j u → (x : Logged w) ×
      ((slice_get log j ≡ Some x) × (x.kept ≡ Some (footprint_of u)))
  trace_kept s log j u kept is = mapped (λ x. x.kept) (slice_get log j) (Some (footprint_of u))
      (sym (get-map (λ x. x.kept) log j) ∙ ap (λ fs. slice_get fs j) kept.footprints ∙ footprint_there (traces (history log)) j u is)

pub accept_law : (w : Schema) → AcceptLaw w
accept_law w h e legal accepted = accepted_append h e legal accepted

pub record_law : (w : Schema) → RecordLaw w
record_law w s log k e f kept is =
    let (t, there, same) = trace_there s log k e f kept is in
    let (d, at, made) = edit_at (history log) empty k t there in
    let entry : slice_get (history log) k ≡ Some (done e) = get-map entry_of log k ∙ ap (option_map entry_of) is in
    let this : d ≡ e = cc (at, entry) in
    sym same ∙ ap footprint_of (sym made) ∙ ap (λ x. footprint_of (trace x (replay (take k (history log))))) this

pub undo_record_law : (w : Schema) → UndoRecordLaw w
undo_record_law w s log k t j kept is = (
  λ r.
      let (f, has, met) = some_footprint t.before r.entry.kept r.meets in
      let (u, in_force, same) = kept_trace s log j r.entry f kept r.there has in
      record {
        later = r.later;
        of_j = u;
        of_k = t;
        j_in_force = in_force;
        k_in_force = is;
        needs =
            needs_true u t (ap (λ f. meets_any f t.before) same ∙ met);
      },
  λ b.
      let (x, (there, has)) = trace_kept s log j b.of_j kept b.j_in_force in
      let same : b.of_k ≡ t = cc (b.k_in_force, is) in
      record {
        later = b.later;
        entry = x;
        there = there;
        meets = ap (blocks_undo t.before) has ∙
            (needs_law w b.of_j t).1 (subst (λ u. Needs b.of_j u) same b.needs);
      },
)

pub redo_record_law : (w : Schema) → RedoRecordLaw w
redo_record_law w s log k e j kept =
    let t = trace e s in (
      λ r.
          let (f, has, met) = meets_footprint (footprint_of t) r.entry.kept (sym (same_blocks e s r.entry.kept) ∙ r.meets) in
          let (u, in_force, same) = kept_trace s log j r.entry f kept r.there has in
          record {
            later = r.later;
            of_j = u;
            j_in_force = in_force;
            meets = elim met [
              | inl m ↦ inl (needs_true u t (ap (λ f. meets_any f t.before) same ∙ m))
              | inr m ↦ inr (needs_true t u (ap (λ f. meets_any (footprint_of t) f.touched) same ∙ m))
            ];
          },
      λ b.
          let (x, (there, has)) = trace_kept s log j b.of_j kept b.j_in_force in
          let met : blocks_redo (footprint_of t) (Some (footprint_of b.of_j)) ≡ true =
          either _ _ (elim b.meets [ inl need ↦ inl ((needs_law w b.of_j t).1 need) | inr need ↦ inr ((needs_law w t b.of_j).1 need) ]) in
          record { later = b.later; entry = x; there = there; meets = same_blocks e s x.kept ∙ ap (blocks_redo (footprint_of t)) has ∙ met },
    )

pub undo_test_law : (w : Schema) → UndoTestLaw w
undo_test_law w s log k t kept is = (
  (
    λ none. record { in_force = is; unblocked = undo_none s log k t kept is none },
    λ can. none_found (undo_blocker log k t.before) (undo_found s log k t kept is) can.unblocked,
  ),
  λ j. least_found (undo_blocker log k t.before) (undo_found s log k t kept is) (undo_none s log k t kept is) j,
)

pub redo_test_law : (w : Schema) → RedoTestLaw w
redo_test_law w s log k e kept is = (
  λ ok. let (xs, accepted) = ok_is (outcome e s) ok in (
    λ none. redo_can s log k (suc k) e xs kept is accepted none,
    λ can. none_found (redo_blocker log k (planned e s)) (redo_found s log k e kept) (can_free (history log) k (trace e s) can),
  ),
  λ j. least_found (redo_blocker log k (planned e s)) (redo_found s log k e kept) (redo_none s log k e kept) j,
)

pub kept_edit_law : (w : Schema) → KeptEditLaw w
kept_edit_law w s log e kept ok =
    let (xs, accepted) = ok_is (outcome e s) ok in
    rw accepted (kept_append s log e xs kept accepted)

pub kept_undo_law : (w : Schema) → KeptUndoLaw w
kept_undo_law w s log k e t kept is can = (kept_undo s log k (suc k) e (footprint_of t) kept is ((undo_test_law w s log k t kept can.in_force).0.1 can)).1

pub kept_redo_law : (w : Schema) → KeptRedoLaw w
kept_redo_law w s log k e kept is can =
    let (xs, accepted) = ok_is (outcome e s) can.accepted in
    rw accepted (kept_redo s log k (suc k) e xs kept is accepted (((redo_test_law w s log k e kept is).0 can.accepted).1 can))

pub kept_last_law : (w : Schema) → KeptLastLaw w
kept_last_law w s log k e f kept is none_later =
    let h = history log in
    let (t, there, same) = trace_there s log k e f kept is in
    let last : IsLast (traces h) k = λ j u in_force. elim (cases_lt k j) [
      | inl later ↦ let (x, (at, has)) = trace_kept s log j u kept in_force in let none = none_later j x later at in cc (has, none)
      | inr below ↦ below
    ] in
    let (can, before) = last_law w h k t there last in
    let back = (undo_law w h k t kept.legal can).set_back in (
      subst (λ f. undo_blocker log k f.touched ≡ None) same ((undo_test_law w s log k t kept there).0.1 can),
      ap (λ f. apply f.touched s) (sym same) ∙ ap (apply t.before) kept.shown ∙ sym back ∙ before,
    )

granted_kept : (w : Schema) (s t : State w) (log more : List (Logged w)) → IsKept s log → Granted s log t more → IsKept t more
granted_kept w s t log more kept (edited e ok) = kept_edit_law w s log e kept ok
granted_kept w s t log more kept (undid k e f is none) = (kept_undo s log k (suc k) e f kept is none).1
granted_kept w s t log more kept (redid k e is ok none) =
    kept_redo_law w s log k e kept is (((redo_test_law w s log k e kept is).0 ok).0 none)

pub run_law : (w : Schema) → RunLaw w
run_law w s log begins = record { legal = λ k t is. cc; shown = refl; footprints = refl }
run_law w s log (goes_on run granted) = granted_kept w _ s _ log (run_law w _ _ run) granted
