-- One pass finds the dependents of an edit.
use Rattle.std.proofs.Common.{◌≡◌, ℕ, zero, suc, ◌<◌, ◌≤◌, Bool, true, false, true≢false, ◌||◌, List, [], ◌∷◌, map, drop, Option, Some, None, arith, refl, sym}
use Rattle.std.proofs.Common.{ap, ◌∙◌, subst, slice_get, if◌then◌else◌, ◌⊎◌, inl, inr}
use Rattle.std.specs.List.{list_any}
use Rattle.selective_undo.specs.Edit.{Schema, Trace, needs, Needs}
use Rattle.selective_undo.specs.History.{InForce, Dependent, itself, through, Has, Falls, joined, gathered}
use Rattle.selective_undo.specs.Laws.{FindDependentsLaw}
use Rattle.selective_undo.proofs.Changes.{or_right}
use Rattle.selective_undo.proofs.Locality.{needs_true, needs_law}
use Rattle.selective_undo.proofs.Dependents.{dependent_in_force}
use Rattle.selective_undo.proofs.Log.{cases_lt}

drop_step : {A : Type 0} (xs : List A) (j : ℕ) (y : A) (ys : List A) → drop j xs ≡ y ∷ ys → (slice_get xs j ≡ Some y) × (drop (suc j) xs ≡ ys)
drop_step [] zero y ys e = cc
drop_step [] (suc j) y ys e = cc
drop_step (x ∷ xs) zero y ys e = (cc, cc)
drop_step (x ∷ xs) (suc j) y ys e = drop_step xs j y ys e

drop_end : {A : Type 0} (xs : List A) (j i : ℕ) (y : A) → drop j xs ≡ [] → slice_get xs i ≡ Some y → i < j
drop_end [] j i y e is = cc
drop_end (x ∷ xs) zero i y e is = cc
drop_end (x ∷ xs) (suc j) zero y e is = omega arith
drop_end (x ∷ xs) (suc j) (suc i) y e is = let low = drop_end xs j i y e is in omega (arith, low)

module _ {w : Schema} where
  -- edit j was found, with trace u
  Found : List (ℕ × Trace w) → ℕ → Trace w → Type 0
  Found [] j u = ⊥
  Found (d ∷ ds) j u = ((d.0 ≡ j) × (d.1 ≡ u)) ⊎ Found ds j u

  has_found : (found : List (ℕ × Trace w)) (j : ℕ) → Has (map (λ d. d.0) found) j → (u : Trace w) × Found found j u
  unfolding Found
  has_found [] j has = absurd has
  has_found (d ∷ ds) j (inl same) = (d.1, inl (sym same, refl))
  has_found (d ∷ ds) j (inr has) = let (u, there) = has_found ds j has in (u, inr there)

  found_has : (found : List (ℕ × Trace w)) (j : ℕ) (u : Trace w) → Found found j u → Has (map (λ d. d.0) found) j
  unfolding Found
  found_has [] j u is = absurd is
  found_has (d ∷ ds) j u (inl same) = inl (sym same.0)
  found_has (d ∷ ds) j u (inr is) = inr (found_has ds j u is)

  -- the test finds the one that is needed
  some_needed : (found : List (ℕ × Trace w)) (v : Trace w) → list_any (λ d. needs v d.1) found ≡ true → (j : ℕ) ×
      ((u : Trace w) × (Found found j u × (needs v u ≡ true)))
  unfolding Found
  some_needed [] v e = cc
  some_needed (d ∷ ds) v e =
      elim (needs v d.1) as (λ b. needs v d.1 ≡ b → b || list_any (λ d. needs v d.1) ds ≡ true → (j : ℕ) ×
      ((u : Trace w) × (Found (d ∷ ds) j u × (needs v u ≡ true)))) [
        | true ↦ λ is f. (d.0, (d.1, (inl (refl, refl), is)))
        | false ↦ λ is f. let (j, (u, (there, met))) = some_needed ds v f in (j, (u, (inr there, met)))
      ] refl e

  any_needed : (found : List (ℕ × Trace w)) (v : Trace w) (j : ℕ) (u : Trace w) → Found found j u → needs v u ≡ true → list_any (λ d. needs v d.1) found ≡ true
  unfolding Found
  any_needed [] v j u is met = absurd is
  any_needed (d ∷ ds) v j u (inl same) met = rw (ap (λ t. needs v t) same.1 ∙ met) refl
  any_needed (d ∷ ds) v j u (inr is) met = or_right _ _ (any_needed ds v j u is met)

  not_below : (ts : List (Option (Trace w))) (k j : ℕ) → Dependent ts k j → k ≤ j
  not_below ts k j itself = omega arith
  not_below ts k j (through b d) = let up = not_below ts k _ d in omega (arith, up, b.later)

  -- what was found below j: dependents alone, and all of them, from the greatest down
  record Gathered (ts : List (Option (Trace w))) (k j : ℕ) (found : List (ℕ × Trace w)) : Type 0 where
    above : k < j
    sound : (i : ℕ) (u : Trace w) → Found found i u → (i < j) × (InForce ts i u × Dependent ts k i)
    whole : (i : ℕ) → i < j → Dependent ts k i → (u : Trace w) × Found found i u
    falls : Falls (map (λ d. d.0) found)

  first_gathered : (ts : List (Option (Trace w))) (k : ℕ) (t : Trace w) → InForce ts k t → Gathered ts k (suc k) ((k, t) ∷ [])
  unfolding Found
  first_gathered ts k t is = record {
    above = omega arith;
    sound = λ i u f. elim f [
      | inl same ↦ (
        omega (arith, same.0),
        (
          subst (λ i. InForce ts i u) same.0 (subst (λ u. InForce ts k u) same.1 is),
          subst (λ i. Dependent ts k i) same.0 itself,
        ),
      )
      | inr none ↦ absurd none
    ];
    whole = λ i low d. (t, inl (let up = not_below ts k i d in omega (arith, up, low), refl));
    falls = (λ j none. absurd none, tt);
  }

  must_need : (ts : List (Option (Trace w))) (k j : ℕ) (found : List (ℕ × Trace w)) (v : Trace w) → Gathered ts k j found → InForce ts j v → Dependent ts k j →
      list_any (λ d. needs v d.1) found ≡ true
  must_need ts k j found v so_far is itself = let up = so_far.above in absurd (omega (arith, up))
  must_need ts k j found v so_far is (through {m = m} b d) =
      let (u, there) = so_far.whole m b.later d in
      let this : b.of_j ≡ v = cc (b.j_in_force, is) in
      let that : b.of_k ≡ u = cc (b.k_in_force, (so_far.sound m u there).1.0) in
      any_needed found v m u there ((needs_law w v u).1 (subst (λ t. Needs v t) that (subst (λ t. Needs t b.of_k) this b.needs)))

  -- an edit out of force is nobody's dependent
  out_of_force : (ts : List (Option (Trace w))) (k j : ℕ) → k < j → slice_get ts j ≡ Some None → Dependent ts k j → ⊥
  out_of_force ts k j up out itself = absurd (omega (arith, up))
  out_of_force ts k j up out (through b d) = let there = b.j_in_force in cc (out, there)

  none_gathered : (ts : List (Option (Trace w))) (k j : ℕ) (found : List (ℕ × Trace w)) → Gathered ts k j found → slice_get ts j ≡ Some None →
      Gathered ts k (suc j) found
  none_gathered ts k j found so_far out = record {
    above = let up = so_far.above in omega (arith, up);
    sound = λ i u f. let (low, rest) = so_far.sound i u f in (omega (arith, low), rest);
    whole = λ i low d. elim (cases_lt i j) [
      | inl below ↦ so_far.whole i below d
      | inr up ↦ absurd (out_of_force ts k j so_far.above out (let same : i ≡ j = omega (arith, up, low) in subst (λ n. Dependent ts k n) same d))
    ];
    falls = so_far.falls;
  }

  -- edit j is a dependent exactly where it needs one that was found
  more_gathered : (ts : List (Option (Trace w))) (k j : ℕ) (found : List (ℕ × Trace w)) (v : Trace w) (b : Bool) → Gathered ts k j found → InForce ts j v →
      list_any (λ d. needs v d.1) found ≡ b → Gathered ts k (suc j) (if b then (j, v) ∷ found else found)
  unfolding Found
  more_gathered ts k j found v true so_far is e =
      let (i, (u, (there, met))) = some_needed found v e in
      let (low, (in_force, dependent)) = so_far.sound i u there in
      let joins : Dependent ts k j = through (record { later = low; of_j = v; of_k = u; j_in_force = is; k_in_force = in_force; needs = needs_true v u met })
      dependent in
      record {
        above = let up = so_far.above in omega (arith, up);
        sound = λ i u f. elim f [
          | inl same ↦ (
            omega (arith, same.0),
            (
              subst (λ i. InForce ts i u) same.0 (subst (λ u. InForce ts j u) same.1 is),
              subst (λ i. Dependent ts k i) same.0 joins,
            ),
          )
          | inr before ↦ let (low, rest) = so_far.sound i u before in (omega (arith, low), rest)
        ];
        whole = λ i low d. elim (cases_lt i j) [
          | inl below ↦ let (u, there) = so_far.whole i below d in (u, inr there)
          | inr up ↦ (v, inl (omega (arith, up, low), refl))
        ];
        falls = (λ i has. let (u, there) = has_found found i has in (so_far.sound i u there).0, so_far.falls);
      }
  more_gathered ts k j found v false so_far is e =
      record {
        above = let up = so_far.above in omega (arith, up);
        sound = λ i u f. let (low, rest) = so_far.sound i u f in (omega (arith, low), rest);
        whole = λ i low d. elim (cases_lt i j) [
          | inl below ↦ so_far.whole i below d
          | inr up ↦ absurd (true≢false (sym (must_need ts k j found v so_far is
              (let same : i ≡ j = omega (arith, up, low) in subst (λ n. Dependent ts k n) same d)) ∙ e))
        ];
        falls = so_far.falls;
      }

  all_gathered : (ts : List (Option (Trace w))) (k j : ℕ) (found : List (ℕ × Trace w)) (rest : List (Option (Trace w))) → drop j ts ≡ rest →
      Gathered ts k j found → (n : ℕ) × (Gathered ts k n (gathered found j rest) × (drop n ts ≡ []))
  all_gathered ts k j found [] e so_far = (j, (so_far, e))
  all_gathered ts k j found (None ∷ rest) e so_far =
      let (at, next) = drop_step ts j None rest e in
      all_gathered ts k (suc j) found rest next (none_gathered ts k j found so_far at)
  all_gathered ts k j found (Some v ∷ rest) e so_far =
      let (at, next) = drop_step ts j (Some v) rest e in
      all_gathered ts k (suc j) (joined found j (Some v)) rest next (more_gathered ts k j found v (list_any (λ d. needs v d.1) found) so_far at refl)

pub find_dependents_law : (w : Schema) → FindDependentsLaw w
find_dependents_law w ts k t is =
    let (n, (all, over)) = all_gathered ts k (suc k) ((k, t) ∷ []) (drop (suc k) ts) refl (first_gathered ts k t is) in
    let found = gathered ((k, t) ∷ []) (suc k) (drop (suc k) ts) in (
      all.falls,
      λ j. (
        λ has. let (u, there) = has_found found j has in (all.sound j u there).1.1,
        λ d.
            let (u, in_force) = dependent_in_force ts k j t is d in
            let (v, there) = all.whole j (drop_end ts n j (Some u) over in_force) d in
            found_has found j v there,
      ),
    )
