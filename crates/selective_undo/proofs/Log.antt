-- A log that is kept stays so when an edit comes, is undone or is redone.
use Rattle.std.proofs.Common.{◌≡◌, ℕ, zero, suc, ◌+◌, ◌<◌, ◌≤◌, List, [], ◌∷◌, ◌++◌, map, refl, sym, ap, ◌∙◌, subst, Option, Some, None, option_map, Bool, true}
use Rattle.std.proofs.Common.{false, ◌||◌, Ok, IsOk, is_ok, slice_get, slice_set, drop, arith, inl, inr, ◌⊎◌, if◌then◌else◌}
use Rattle.selective_undo.specs.Changes.{apply, inverse, changes}
use Rattle.selective_undo.proofs.Changes.{changes-inverse}
use Rattle.selective_undo.specs.Edit.{Schema, State, Change, EditTree, Trace, covers, outcome, reads, written, trace, needs, Needs}
use Rattle.selective_undo.specs.History.{Entry, done, undone, replay, traces, undo, redo, InForce, IsLegal, Blocks, CanUndo, CanRedo}
use Rattle.selective_undo.specs.Log.{Footprint, Logged, footprint_of, footprints, entry_of, history, meets_any, blocks_undo, blocks_redo, planned, first_from}
use Rattle.selective_undo.specs.Log.{IsKept, Least, BlocksRedo}
use Rattle.selective_undo.proofs.Locality.{needs_true, needs_false, or_neither}
use Rattle.selective_undo.proofs.Undo.{undo_law, append_law}
use Rattle.selective_undo.proofs.Redo.{redo_law}

-- ---- lists

pub get-map : {A B : Type 0} (f : A → B) (xs : List A) (j : ℕ) → slice_get (map f xs) j ≡ option_map f (slice_get xs j)
get-map f [] j = refl
get-map f (x ∷ xs) zero = refl
get-map f (x ∷ xs) (suc j) = get-map f xs j

pub set-map : {A B : Type 0} (f : A → B) (xs : List A) (j : ℕ) (x : A) → map f (slice_set xs j x) ≡ slice_set (map f xs) j (f x)
set-map f [] j x = refl
set-map f (y ∷ xs) zero x = refl
set-map f (y ∷ xs) (suc j) x = ap (λ ys. f y ∷ ys) (set-map f xs j x)

pub append-map : {A B : Type 0} (f : A → B) (xs ys : List A) → map f (xs ++ ys) ≡ map f xs ++ map f ys
append-map f [] ys = refl
append-map f (x ∷ xs) ys = ap (λ zs. f x ∷ zs) (append-map f xs ys)

-- what stands in a list with one item more
pub last_or : {A : Type 0} (xs : List A) (x y : A) (j : ℕ) → slice_get (xs ++ x ∷ []) j ≡ Some y → (y ≡ x) ⊎ (slice_get xs j ≡ Some y)
last_or [] x y zero is = inl cc
last_or [] x y (suc j) is = inr is
last_or (z ∷ xs) x y zero is = inr is
last_or (z ∷ xs) x y (suc j) is = last_or xs x y j is

-- the first that passes from n on stands at j
pub record FirstAt {X : Type 0} (p : X → Bool) (n : ℕ) (xs : List X) (j : ℕ) : Type 0 where
  pub from : n ≤ j
  pub item : X
  pub there : slice_get xs j ≡ Some item
  pub passes : p item ≡ true
  pub none_before : (l : ℕ) (y : X) → n ≤ l → l < j → slice_get xs l ≡ Some y → p y ≡ false

module _ {X : Type 0} (p : X → Bool) where
  first_found : (i m : ℕ) (xs : List X) → first_from p i xs ≡ Some m → (j : ℕ) × (m ≡ i + j) × FirstAt p 0 xs j
  first_found i m [] e = cc
  first_found i m (x ∷ xs) e =
      elim (p x) as (λ b. p x ≡ b → (if b then Some i else first_from p (i + 1) xs) ≡ Some m → (j : ℕ) × (m ≡ i + j) × FirstAt p 0 (x ∷ xs) j) [
        | true ↦ λ h f. (
          zero,
          omega (arith, (let g : i ≡ m = cc in g)),
          record { from = omega arith; item = x; there = refl; passes = h; none_before = λ l y up low is. absurd (omega (arith, low)) },
        )
        | false ↦ λ h f. let found = first_found (i + 1) m xs f in (
          suc found.0,
          omega (arith, found.1),
          record {
            from = omega arith;
            item = found.2.item;
            there = found.2.there;
            passes = found.2.passes;
            none_before = λ l. elim l as (λ l. (y : X) → 0 ≤ l → l < suc found.0 → slice_get (x ∷ xs) l ≡ Some y → p y ≡ false) [
              | zero ↦ λ y up low is. let same : x ≡ y = cc in rw (← same) h
              | suc l ↦ λ y up low is. found.2.none_before l y (omega arith) (omega (arith, low)) is
            ];
          },
        )
      ] refl e

  pub first_at : (i m n : ℕ) (xs : List X) → first_from p i (drop n xs) ≡ Some m → (j : ℕ) × (m + n ≡ i + j) × FirstAt p n xs j
  first_at i m zero xs e = let found = first_found i m xs e in (found.0, omega (arith, found.1), found.2)
  first_at i m (suc n) [] e = cc
  first_at i m (suc n) (x ∷ xs) e =
      let found = first_at i m n xs e in (
        suc found.0,
        omega (arith, found.1),
        record {
          from = omega (arith, found.2.from);
          item = found.2.item;
          there = found.2.there;
          passes = found.2.passes;
          none_before = λ l. elim l as (λ l. (y : X) → suc n ≤ l → l < suc found.0 → slice_get (x ∷ xs) l ≡ Some y → p y ≡ false) [
            | zero ↦ λ y up low is. absurd (omega (arith, up))
            | suc l ↦ λ y up low is. found.2.none_before l y (omega (arith, up)) (omega (arith, low)) is
          ];
        },
      )

  none_found : (i : ℕ) (xs : List X) (j : ℕ) (y : X) → first_from p i xs ≡ None → slice_get xs j ≡ Some y → p y ≡ false
  none_found i [] j y e is = cc
  none_found i (x ∷ xs) j y e is =
      elim (p x) as (λ b. p x ≡ b → (if b then Some i else first_from p (i + 1) xs) ≡ None → p y ≡ false) [
        | true ↦ λ h f. cc
        | false ↦ λ h f. elim j as (λ j. slice_get (x ∷ xs) j ≡ Some y → p y ≡ false) [
          | zero ↦ λ at. let same : x ≡ y = cc in rw (← same) h
          | suc j ↦ λ at. none_found (i + 1) xs j y f at
        ] is
      ] refl e

  pub none_at : (i n : ℕ) (xs : List X) (j : ℕ) (y : X) → first_from p i (drop n xs) ≡ None → n ≤ j → slice_get xs j ≡ Some y → p y ≡ false
  none_at i zero xs j y e up is = none_found i xs j y e is
  none_at i (suc n) [] j y e up is = cc
  none_at i (suc n) (x ∷ xs) j y e up is =
      elim j as (λ j. suc n ≤ j → slice_get (x ∷ xs) j ≡ Some y → p y ≡ false) [
        | zero ↦ λ up at. absurd (omega (arith, up))
        | suc j ↦ λ up at. none_at i n xs j y e (omega (arith, up)) at
      ] up is

pub cases_lt : (a b : ℕ) → (a < b) ⊎ (b ≤ a)
cases_lt a zero = inr (omega arith)
cases_lt zero (suc b) = inl (omega arith)
cases_lt (suc a) (suc b) = elim (cases_lt a b) [ inl low ↦ inl (omega (arith, low)) | inr up ↦ inr (omega (arith, up)) ]

-- ---- what is kept, and traces

module _ {w : Schema} where
  pub footprint_there : (ts : List (Option (Trace w))) (j : ℕ) (u : Trace w) → InForce ts j u → slice_get (footprints ts) j ≡ Some (Some (footprint_of u))
  footprint_there ts j u is = get-map (option_map footprint_of) ts j ∙ ap (option_map (option_map footprint_of)) is

  pub trace_of : (ts : List (Option (Trace w))) (j : ℕ) (f : Footprint w) → slice_get (footprints ts) j ≡ Some (Some f) → (u : Trace w) × InForce ts j u ×
      (footprint_of u ≡ f)
  trace_of [] j f is = cc
  trace_of (Some u ∷ ts) zero f is = (u, refl, cc)
  trace_of (None ∷ ts) zero f is = cc
  trace_of (t ∷ ts) (suc j) f is = trace_of ts j f is

  pub some_footprint : (xs : List (Change w)) (o : Option (Footprint w)) → blocks_undo xs o ≡ true → (f : Footprint w) × (o ≡ Some f) × (meets_any f xs ≡ true)
  some_footprint xs None e = cc
  some_footprint xs (Some f) e = (f, refl, e)

  -- ---- the least edit that blocks an undo

  -- the test finds the blockers of edit k
  pub undo_free : (ts : List (Option (Trace w))) (k i : ℕ) (t : Trace w) → InForce ts k t →
      first_from (blocks_undo t.before) i (drop (suc k) (footprints ts)) ≡ None → (j : ℕ) → Blocks ts j k → ⊥
  undo_free ts k i t is none j b =
      let same : b.of_k ≡ t = cc (b.k_in_force, is) in
      let quiet = none_at (blocks_undo t.before) i (suc k) (footprints ts) j (Some (footprint_of b.of_j)) none (omega (arith, b.later))
      (footprint_there ts j b.of_j b.j_in_force) in
      needs_false b.of_j t quiet (subst (λ u. Needs b.of_j u) same b.needs)

  pub undo_least : (ts : List (Option (Trace w))) (k i m : ℕ) (t : Trace w) → InForce ts k t →
      first_from (blocks_undo t.before) i (drop (suc k) (footprints ts)) ≡ Some m → (j : ℕ) × (m + suc k ≡ i + j) × Least (λ j. Blocks ts j k) j
  undo_least ts k i m t is found =
      let at = first_at (blocks_undo t.before) i m (suc k) (footprints ts) found in
      let first = at.2 in
      let made = some_footprint t.before first.item first.passes in
      let of_j = trace_of ts at.0 made.0 (first.there ∙ ap Some made.1) in
      let needed : needs of_j.0 t ≡ true = ap (λ f. meets_any f t.before) of_j.2 ∙ made.2 in (
        at.0,
        at.1,
        record {
          holds = record {
            later = omega (arith, first.from);
            of_j = of_j.0;
            of_k = t;
            j_in_force = of_j.1;
            k_in_force = is;
            needs =
                needs_true of_j.0 t needed;
          };
          least = λ l b. elim (cases_lt l at.0) [
            | inl low ↦
                let same : b.of_k ≡ t = cc (b.k_in_force, is) in
                let quiet = first.none_before l (Some (footprint_of b.of_j)) (omega (arith, b.later)) low (footprint_there ts l b.of_j b.j_in_force) in
                absurd (needs_false b.of_j t quiet (subst (λ u. Needs b.of_j u) same b.needs))
            | inr up ↦ up
          ];
        },
      )

  -- ---- the least edit that blocks a redo

  pub meets_footprint : (g : Footprint w) (o : Option (Footprint w)) → blocks_redo g o ≡ true → (f : Footprint w) × (o ≡ Some f) ×
      ((meets_any f g.touched ≡ true) ⊎ (meets_any g f.touched ≡ true))
  meets_footprint g None e = cc
  meets_footprint g (Some f) e =
      elim (meets_any f g.touched) as (λ b. meets_any f g.touched ≡ b → b || meets_any g f.touched ≡ true → (h : Footprint w) × (Some f ≡ Some h) ×
      ((meets_any h g.touched ≡ true) ⊎ (meets_any g h.touched ≡ true))) [
        | true ↦ λ is d. (f, refl, inl is)
        | false ↦ λ is d. (f, refl, inr d)
      ] refl e

  no_meeting : (u t : Trace w) → blocks_redo (footprint_of t) (Some (footprint_of u)) ≡ false → (Needs u t ⊎ Needs t u) → ⊥
  no_meeting u t e needed =
      let parts = or_neither _ _ e in
      elim needed [ inl n ↦ needs_false u t parts.0 n | inr n ↦ needs_false t u parts.1 n ]

  pub redo_free : (ts : List (Option (Trace w))) (k i : ℕ) (t : Trace w) → first_from (blocks_redo (footprint_of t)) i (drop (suc k) (footprints ts)) ≡ None →
      (j : ℕ) → BlocksRedo ts k t j → ⊥
  redo_free ts k i t none j b =
      no_meeting b.of_j t (none_at (blocks_redo (footprint_of t)) i (suc k) (footprints ts) j (Some (footprint_of b.of_j)) none (omega (arith, b.later))
      (footprint_there ts j b.of_j b.j_in_force)) b.meets

  pub redo_least : (ts : List (Option (Trace w))) (k i m : ℕ) (t : Trace w) →
      first_from (blocks_redo (footprint_of t)) i (drop (suc k) (footprints ts)) ≡ Some m → (j : ℕ) × (m + suc k ≡ i + j) × Least (BlocksRedo ts k t) j
  redo_least ts k i m t found =
      let at = first_at (blocks_redo (footprint_of t)) i m (suc k) (footprints ts) found in
      let first = at.2 in
      let made = meets_footprint (footprint_of t) first.item first.passes in
      let of_j = trace_of ts at.0 made.0 (first.there ∙ ap Some made.1) in (
        at.0,
        at.1,
        record {
          holds = record {
            later = omega (arith, first.from);
            of_j = of_j.0;
            j_in_force = of_j.1;
            meets = elim made.2 [
              | inl e ↦ inl (needs_true of_j.0 t (ap (λ f. meets_any f t.before) of_j.2 ∙ e))
              | inr e ↦ inr (needs_true t of_j.0 (ap (λ f. meets_any (footprint_of t) f.touched) of_j.2 ∙ e))
            ];
          };
          least = λ l b. elim (cases_lt l at.0) [
            | inl low ↦ absurd (no_meeting b.of_j t (first.none_before l (Some (footprint_of b.of_j)) (omega (arith, b.later)) low
                (footprint_there ts l b.of_j b.j_in_force)) b.meets)
            | inr up ↦ up
          ];
        },
      )

  -- the plan's cells are those of the trace
  any_inverse : (f : Footprint w) (xs : List (Change w)) (s : State w) → meets_any f (inverse xs s) ≡ meets_any f xs
  any_inverse f [] s = refl
  any_inverse f (x ∷ xs) s = ap (λ b. (changes w.order f.touched x.cell || covers w f.reads x.cell) || b) (any_inverse f xs s)

  any_planned : (e : EditTree w) (s : State w) (ys : List (Change w)) → meets_any (planned e s) ys ≡ meets_any (footprint_of (trace e s)) ys
  any_planned e s [] = refl
  any_planned e s (y ∷ ys) =
      ap (λ b. (b || covers w (reads e s) y.cell) || meets_any (planned e s) ys) (sym (changes-inverse (written (outcome e s)) s y.cell))
      ∙ ap (λ b. (changes w.order (trace e s).before y.cell || covers w (reads e s) y.cell) || b) (any_planned e s ys)

  pub same_blocks : (e : EditTree w) (s : State w) (o : Option (Footprint w)) → blocks_redo (planned e s) o ≡ blocks_redo (footprint_of (trace e s)) o
  same_blocks e s None = refl
  same_blocks e s (Some f) =
      ap (λ b. b || meets_any (planned e s) f.touched) (sym (any_inverse f (written (outcome e s)) s))
      ∙ ap (λ b. meets_any f (trace e s).before || b) (any_planned e s f.touched)

  pub first_planned : (e : EditTree w) (s : State w) (i : ℕ) (fs : List (Option (Footprint w))) →
      first_from (blocks_redo (planned e s)) i fs ≡ first_from (blocks_redo (footprint_of (trace e s))) i fs
  first_planned e s i [] = refl
  first_planned e s i (o ∷ fs) = rw (same_blocks e s o, first_planned e s (i + 1) fs)

  -- ---- the log after an edit, an undo, a redo

  kept_at : (log : List (Logged w)) (k : ℕ) (x : Logged w) → slice_get log k ≡ Some x → slice_get (map (λ x. x.kept) log) k ≡ Some x.kept
  kept_at log k x is = get-map (λ x. x.kept) log k ∙ ap (option_map (λ x. x.kept)) is

  entry_at : (log : List (Logged w)) (k : ℕ) (x : Logged w) → slice_get log k ≡ Some x → slice_get (history log) k ≡ Some (entry_of x)
  entry_at log k x is = get-map entry_of log k ∙ ap (option_map entry_of) is

  pub set_undo : (h : List (Entry w)) (k : ℕ) (e : EditTree w) → slice_get h k ≡ Some (done e) → undo k h ≡ slice_set h k (undone e)
  set_undo [] k e is = refl
  set_undo (x ∷ h) zero e is = let same : x ≡ done e = cc in rw same
  set_undo (x ∷ h) (suc k) e is = ap (λ r. x ∷ r) (set_undo h k e is)

  pub set_redo : (h : List (Entry w)) (k : ℕ) (e : EditTree w) → slice_get h k ≡ Some (undone e) → redo k h ≡ slice_set h k (done e)
  set_redo [] k e is = refl
  set_redo (x ∷ h) zero e is = let same : x ≡ undone e = cc in rw same
  set_redo (x ∷ h) (suc k) e is = ap (λ r. x ∷ r) (set_redo h k e is)

  pub accepted_append : (h : List (Entry w)) (e : EditTree w) → IsLegal h → IsOk (outcome e (replay h)) → IsLegal (h ++ done e ∷ [])
  accepted_append h e legal accepted j u is =
      elim (last_or (traces h) (Some (trace e (replay h))) (Some u) j (subst (λ ts. InForce ts j u) (append_law w h e).1 is)) [
        | inl last ↦ (let same : u ≡ trace e (replay h) = cc in rw same accepted)
        | inr old ↦ legal j u old
      ]

  -- an edit comes
  pub kept_append : (s : State w) (log : List (Logged w)) (e : EditTree w) (xs : List (Change w)) → IsKept s log → outcome e s ≡ Ok xs
      → IsKept (apply xs s) (log ++ record { edit = e; kept = Some (record { reads = reads e s; touched = inverse xs s }) } ∷ [])
  kept_append s log e xs kept accepted =
      let h = history log in
      let more : Logged w = record { edit = e; kept = Some (record { reads = reads e s; touched = inverse xs s }) } in
      let now_is : history (log ++ more ∷ []) ≡ h ++ done e ∷ [] = append-map entry_of log (more ∷ []) in
      let law = append_law w h e in
      let made : trace e (replay h) ≡ record { reads = reads e s; outcome = Ok xs; before = inverse xs s } =
      rw (← kept.shown, accepted) refl in
      record {
        legal = subst (λ g. IsLegal g) (sym now_is) (accepted_append h e kept.legal (ap (λ v. is_ok v.outcome) made));
        shown = rw (now_is, law.0, ← kept.shown, accepted) refl;
        footprints = append-map (λ x. x.kept) log (more ∷ []) ∙ ap (λ fs. fs ++ more.kept ∷ []) kept.footprints
            ∙ sym (ap (λ g. footprints (traces g)) now_is ∙ ap footprints law.1 ∙
            append-map (option_map footprint_of) (traces h) (Some (trace e (replay h)) ∷ []) ∙
            ap (λ t. footprints (traces h) ++ Some (footprint_of t) ∷ []) made);
      }

  -- the traces of a kept log
  pub trace_there : (s : State w) (log : List (Logged w)) (k : ℕ) (e : EditTree w) (f : Footprint w) → IsKept s log →
      slice_get log k ≡ Some (record { edit = e; kept = Some f }) → (t : Trace w) × InForce (traces (history log)) k t × (footprint_of t ≡ f)
  trace_there s log k e f kept is = trace_of (traces (history log)) k f
      (ap (λ fs. slice_get fs k) (sym kept.footprints) ∙ kept_at log k (record { edit = e; kept = Some f }) is)

  -- an edit is undone
  pub kept_undo : (s : State w) (log : List (Logged w)) (k i : ℕ) (e : EditTree w) (f : Footprint w) → IsKept s log →
      slice_get log k ≡ Some (record { edit = e; kept = Some f })
      → first_from (blocks_undo f.touched) i (drop (suc k) (map (λ x. x.kept) log)) ≡ None
      → ((t : Trace w) × CanUndo (history log) k t × (footprint_of t ≡ f)) × IsKept (apply f.touched s) (slice_set log k (record { edit = e; kept = None }))
  kept_undo s log k i e f kept is none =
      let h = history log in
      let (t, there, same) = trace_there s log k e f kept is in
      let can : CanUndo h k t = record { in_force = there; unblocked = undo_free (traces h) k i t there (rw (kept.footprints, ← same) at none) } in
      let law = undo_law w h k t kept.legal can in
      let now_is : history (slice_set log k (record { edit = e; kept = None })) ≡ undo k h =
      set-map entry_of log k (record { edit = e; kept = None }) ∙ sym (set_undo h k e (entry_at log k (record { edit = e; kept = Some f }) is)) in (
        (t, can, same),
        record {
          legal = subst (λ g. IsLegal g) (sym now_is) law.legal;
          shown = ap (λ g. apply g.touched s) (sym same) ∙ ap (apply t.before) kept.shown ∙ sym law.set_back ∙ ap replay (sym now_is);
          footprints = set-map (λ x. x.kept) log k (record { edit = e; kept = None }) ∙ ap (λ fs. slice_set fs k None) kept.footprints ∙
              sym (ap (λ g. footprints (traces g)) now_is ∙ ap footprints law.same_traces ∙ set-map (option_map footprint_of) (traces h) k None);
        },
      )

  pub redo_can : (s : State w) (log : List (Logged w)) (k i : ℕ) (e : EditTree w) (xs : List (Change w)) → IsKept s log →
      slice_get log k ≡ Some (record { edit = e; kept = None }) → outcome e s ≡ Ok xs
      → first_from (blocks_redo (planned e s)) i (drop (suc k) (map (λ x. x.kept) log)) ≡ None → CanRedo (history log) k (trace e s)
  redo_can s log k i e xs kept is accepted none =
      let free = redo_free (traces (history log)) k i (trace e s) (ap (λ fs. first_from (blocks_redo (footprint_of (trace e s))) i (drop (suc k) fs))
      (sym kept.footprints) ∙ sym (first_planned e s i (drop (suc k) (map (λ x. x.kept) log))) ∙ none) in
      record {
        edit = e;
        out_of_force = entry_at log k (record { edit = e; kept = None }) is;
        tried = ap (trace e) (sym kept.shown);
        accepted = rw accepted refl;
        needed_by_none = λ j u later there needed. free j (record { later = later; of_j = u; j_in_force = there; meets = inl needed });
        needs_none = λ j u later there needed. free j (record { later = later; of_j = u; j_in_force = there; meets = inr needed });
      }

  -- an edit is redone
  pub kept_redo : (s : State w) (log : List (Logged w)) (k i : ℕ) (e : EditTree w) (xs : List (Change w)) → IsKept s log →
      slice_get log k ≡ Some (record { edit = e; kept = None }) → outcome e s ≡ Ok xs
      → first_from (blocks_redo (planned e s)) i (drop (suc k) (map (λ x. x.kept) log)) ≡ None
      → IsKept (apply xs s) (slice_set log k (record { edit = e; kept = Some (record { reads = reads e s; touched = inverse xs s }) }))
  kept_redo s log k i e xs kept is accepted none =
      let h = history log in
      let can = redo_can s log k i e xs kept is accepted none in
      let law = redo_law w h k (trace e s) kept.legal can in
      let more : Logged w = record { edit = e; kept = Some (record { reads = reads e s; touched = inverse xs s }) } in
      let made : footprint_of (trace e s) ≡ record { reads = reads e s; touched = inverse xs s } = rw accepted refl in
      let now_is : history (slice_set log k more) ≡ redo k h =
      set-map entry_of log k more ∙ sym (set_redo h k e (entry_at log k (record { edit = e; kept = None }) is)) in
      record {
        legal = subst (λ g. IsLegal g) (sym now_is) law.legal;
        shown = ap (apply xs) kept.shown ∙ ap (λ o. apply (written o) (replay h)) (sym accepted) ∙ sym law.written ∙ ap replay (sym now_is);
        footprints = set-map (λ x. x.kept) log k more ∙ ap (λ fs. slice_set fs k more.kept) kept.footprints ∙
            sym (ap (λ g. footprints (traces g)) now_is ∙ ap footprints law.same_traces ∙ set-map (option_map footprint_of) (traces h) k (Some (trace e s)) ∙
            ap (λ f. slice_set (footprints (traces h)) k (Some f)) made);
      }
