-- Two lists of ascending labels, in one pass over both; and what makes labels ascend.
use Rattle.std.proofs.Common.{◌≡◌, ℕ, ◌+◌, ◌-◌, ◌<◌, ◌≤◌, true, false, inl, inr, Some, List, [], ◌∷◌, ◌++◌, length, take, get_or, suc, zero}
use Rattle.std.proofs.Common.{sym, ap, subst, ◌∙◌, arith}
use Rattle.std.specs.List.{list_any, slice_get, AllByRecursion}
use Rattle.std.specs.List.Sorted.{IsStrictlySortedBy}
use Rattle.std.specs.Ordering.{is_eq, eq_by_cmp, ordering_reverse}
use Rattle.std.specs.declared.cmp.Ordering.TheVariants.{Less, Equal, Greater}
use Rattle.std.proofs.lemmas.Bool.{cases_lt}
use Rattle.std.proofs.lemmas.List.{get_or_default}
use Rattle.std.proofs.lemmas.List.Folds.{list_any_at, list_any_none}
use Rattle.std.proofs.lemmas.Map.Keys.{Less-from_sorted}
use Rattle.std.proofs.lemmas.Option.{slice_get_within, get_or_from_slice_get}
use Rattle.wb_footprints.specs.Texts.{Text, text_cmp, in_texts}
use Rattle.wb_footprints.proofs.InTexts.{texts_total}

-- ---- in one pass

-- Of two lists, none of the second before a place is one of the first, and those of the first before a place are below the
-- rest of the second.
pub record Merged (xs ys : List Text) (at by : ℕ) : Type 0 where
  pub passed : (j : ℕ) (d : Text) → j < by → in_texts xs (get_or ys j d) ≡ false
  pub below : (i j : ℕ) (d : Text) → i < at → by ≤ j → j < length ys → text_cmp (get_or xs i d) (get_or ys j d) ≡ Less

pub none_merged : (xs ys : List Text) → Merged xs ys 0 0
none_merged xs ys = record { passed = λ j d l. absurd (omega (arith, l)); below = λ i j d l from low. absurd (omega (arith, l)) }

upside : (a b : Text) → text_cmp a b ≡ Less → eq_by_cmp text_cmp b a ≡ false
upside a b e = ap is_eq (texts_total.antisymm b a ∙ ap ordering_reverse e)

module _ (xs ys : List Text) (sx : IsStrictlySortedBy text_cmp xs) (sy : IsStrictlySortedBy text_cmp ys) (at by : ℕ) (h : Merged xs ys at by) where
  module _ (a b : Text) (xa : slice_get xs at ≡ Some a) (yb : slice_get ys by ≡ Some b) where
    from_here : text_cmp a b ≡ Less → (j : ℕ) (d : Text) → by ≤ j → j < length ys → text_cmp a (get_or ys j d) ≡ Less
    from_here less j d from low = elim (cases_lt by j) [
      | inl up ↦ texts_total.trans a (get_or ys by d) (get_or ys j d) (ap (text_cmp a) (get_or_from_slice_get ys by b d yb) ∙ less)
          (Less-from_sorted text_cmp ys by j d sy up low)
      | inr down ↦
          let same : by ≡ j = omega (arith, from, down) in
          subst (λ (k : ℕ). text_cmp a (get_or ys k d) ≡ Less) same (ap (text_cmp a) (get_or_from_slice_get ys by b d yb) ∙ less)
    ]

    -- the one of the first is below
    pub first_on : text_cmp a b ≡ Less → Merged xs ys (at + 1) by
    first_on less = record {
      passed = h.passed;
      below = λ i j d l from low. elim (cases_lt i at) [
        | inl before ↦ h.below i j d before from low
        | inr here ↦
            let same : at ≡ i = omega (arith, here, l) in
            subst (λ (k : ℕ). text_cmp (get_or xs k d) (get_or ys j d) ≡ Less) same
            (ap (λ x. text_cmp x (get_or ys j d)) (get_or_from_slice_get xs at a d xa) ∙ from_here less j d from low)
      ];
    }

    above_here : text_cmp b a ≡ Less → (k : ℕ) (d : Text) → at ≤ k → k < length xs → text_cmp b (get_or xs k d) ≡ Less
    above_here less k d from low = elim (cases_lt at k) [
      | inl up ↦ texts_total.trans b (get_or xs at d) (get_or xs k d) (ap (text_cmp b) (get_or_from_slice_get xs at a d xa) ∙ less)
          (Less-from_sorted text_cmp xs at k d sx up low)
      | inr down ↦
          let same : at ≡ k = omega (arith, from, down) in
          subst (λ (i : ℕ). text_cmp b (get_or xs i d) ≡ Less) same (ap (text_cmp b) (get_or_from_slice_get xs at a d xa) ∙ less)
    ]

    not_in : text_cmp b a ≡ Less → in_texts xs b ≡ false
    not_in less = list_any_none (λ u. eq_by_cmp text_cmp u b) xs (λ k d low. elim (cases_lt k at) [
      | inl before ↦ ap is_eq (ap (text_cmp (get_or xs k d)) (sym (get_or_from_slice_get ys by b d yb))
          ∙ h.below k by d before (omega arith) (slice_get_within ys by b yb))
      | inr from ↦ upside b (get_or xs k d) (above_here less k d from low)
    ])

    -- the one of the second is below
    pub second_on : text_cmp a b ≡ Greater → Merged xs ys at (by + 1)
    second_on greater =
        let less : text_cmp b a ≡ Less = texts_total.antisymm b a ∙ ap ordering_reverse greater in
        record {
          passed = λ j d l. elim (cases_lt j by) [
            | inl before ↦ h.passed j d before
            | inr here ↦
                let same : by ≡ j = omega (arith, here, l) in
                subst (λ (k : ℕ). in_texts xs (get_or ys k d) ≡ false) same (ap (in_texts xs) (get_or_from_slice_get ys by b d yb) ∙ not_in less)
          ];
          below = λ i j d l from low. h.below i j d l (omega (arith, from)) low;
        }

    -- both are one
    pub both_here : text_cmp a b ≡ Equal → list_any (in_texts xs) ys ≡ true
    both_here equal = list_any_at (in_texts xs) ys by b (slice_get_within ys by b yb)
        (ap (in_texts xs) (get_or_from_slice_get ys by b b yb)
        ∙ list_any_at (λ u. eq_by_cmp text_cmp u b) xs at a (slice_get_within xs at a xa)
        (ap (λ u. eq_by_cmp text_cmp u b) (get_or_from_slice_get xs at a a xa) ∙ ap is_eq equal))

  -- the first list ends
  pub first_ends : length xs ≤ at → list_any (in_texts xs) ys ≡ false
  first_ends end = list_any_none (in_texts xs) ys (λ j d low. elim (cases_lt j by) [
    | inl before ↦ h.passed j d before
    | inr from ↦ list_any_none (λ u. eq_by_cmp text_cmp u (get_or ys j d)) xs (λ k e l.
        ap is_eq (ap (text_cmp (get_or xs k e)) (sym (get_or_default ys j e d low)) ∙ h.below k j e (omega (arith, l, end)) from low))
  ])

  -- the second list ends
  pub second_ends : length ys ≤ by → list_any (in_texts xs) ys ≡ false
  second_ends end = list_any_none (in_texts xs) ys (λ j d low. h.passed j d (omega (arith, low, end)))

-- ---- label by label

-- those before a place ascend
abbrev pub Steps : List Text → ℕ → Type 0
Steps ts at = (i : ℕ) (d : Text) → suc i < at → text_cmp (get_or ts i d) (get_or ts (suc i) d) ≡ Less

pub one_step : (ts : List Text) (at : ℕ) (a b : Text) → 1 ≤ at → slice_get ts (at - 1) ≡ Some a → slice_get ts at ≡ Some b → text_cmp a b ≡ Less →
    Steps ts at → Steps ts (at + 1)
one_step ts at a b some before here less h i d l = elim (cases_lt (suc i) at) [
  | inl low ↦ h i d low
  | inr high ↦
      let e : at ≡ suc i = omega (arith, high, l) in
      let f : at - 1 ≡ i = omega (arith, e) in
      subst (λ (j : ℕ). text_cmp (get_or ts j d) (get_or ts (suc i) d) ≡ Less) f
      (subst (λ (j : ℕ). text_cmp (get_or ts (at - 1) d) (get_or ts j d) ≡ Less) e
      (ap (λ x. text_cmp x (get_or ts at d)) (get_or_from_slice_get ts (at - 1) a d before) ∙ ap (text_cmp a) (get_or_from_slice_get ts at b d here) ∙ less))
]

all_above : (ys : List Text) (p x : Text) → text_cmp p x ≡ Less → AllByRecursion (λ y. text_cmp x y ≡ Less) ys →
    AllByRecursion (λ y. text_cmp p y ≡ Less) ys
all_above [] p x l a = tt
all_above (y ∷ ys) p x l a = (texts_total.trans p x y l a.0, all_above ys p x l a.1)

pub ascend : (ts : List Text) (n : ℕ) → length ts ≤ n → Steps ts n → IsStrictlySortedBy text_cmp ts
unfolding IsStrictlySortedBy
ascend [] n end h = tt
ascend (x ∷ []) n end h = (tt, tt)
ascend (x ∷ y ∷ ys) n end h =
    let rest = ascend (y ∷ ys) (n - 1) (omega (arith, end)) (λ i d l. h (suc i) d (omega (arith, l))) in
    let first : text_cmp x y ≡ Less = h 0 x (omega (arith, end)) in
    ((first, all_above ys x y first rest.0), rest)

-- one more
pub take_more : {X : Type 0} (xs : List X) (i : ℕ) (x : X) → i < length xs → get_or xs i x ≡ x → take (i + 1) xs ≡ take i xs ++ x ∷ []
take_more [] i x l e = absurd (omega (arith, l))
take_more (y ∷ ys) zero x l e = ap (λ z. z ∷ []) e
take_more (y ∷ ys) (suc i) x l e =
    let more : suc i + 1 ≡ suc (i + 1) = omega arith in
    rw more (ap (λ zs. y ∷ zs) (take_more ys i x (omega (arith, l)) e))
