-- From mark to mark: what lies between two of them has none.
use Rattle.std.proofs.Common.{◌≡◌, ℕ, ◌+◌, ◌-◌, ◌<◌, ◌≤◌, Bool, true, false, ◌||◌, if◌then◌else◌, Option, Some, None, List, length, take, get_or}
use Rattle.std.proofs.Common.{suc, zero, refl, sym, subst, ap, ◌∙◌, arith, ◌⊎◌, inl, inr}
use Rattle.std.specs.List.{list_any, slice_get}
use Rattle.std.specs.Cmp.{IsTotalOrder}
use Rattle.std.specs.FinMap.{IsAntisymmetric}
use Rattle.std.specs.List.Sorted.{IsStrictlySortedBy}
use Rattle.std.specs.Ordering.{nat_cmp, ordering_then, ordering_reverse, is_eq, eq_by_cmp}
use Rattle.std.specs.declared.cmp.Ordering.{Ordering}
use Rattle.std.specs.declared.cmp.Ordering.TheVariants.{Less, Equal, Greater}
use Rattle.std.proofs.lemmas.Bool.{cases_lt}
use Rattle.std.proofs.lemmas.List.Folds.{list_any_more}
use Rattle.std.proofs.lemmas.Option.{slice_get_within, get_or_from_slice_get}
use Rattle.std.proofs.lemmas.Map.Keys.{Less-from_sorted}
use Rattle.wb_footprints.specs.Relation.{IsLeastAfter}
use Rattle.wb_footprints.specs.Marks.{pair_cmp}
use Rattle.wb_footprints.proofs.AtPoints.{one_more, all_least}
use Rattle.wb_footprints.proofs.Ranges.{behind, above}

then_lower : (a b m k : Ordering) → ordering_then a m ≡ Less → b ≡ ordering_reverse a → is_eq b ≡ false → ordering_then a k ≡ Less
then_lower Less b m k e r apart = refl
then_lower Equal b m k e r apart = let same : is_eq b ≡ true = ap is_eq r in cc
then_lower Greater b m k e r apart = cc

equal_from : (o : Ordering) → is_eq o ≡ true → o ≡ Equal
equal_from Less e = cc
equal_from Equal e = refl
equal_from Greater e = cc

or_false : (a : Bool) → a || false ≡ a
or_false true = refl
or_false false = refl

least_above_like : (p q : ℕ → Bool) (after : ℕ) (r : Option ℕ) → ((n : ℕ) → after < n → q n ≡ p n) → IsLeastAfter p after r → IsLeastAfter q after r
least_above_like p q after None e h = λ n up. e n up ∙ h n up
least_above_like p q after (Some j) e h = (h.0, e j h.0 ∙ h.1, λ n up down. e n up ∙ h.2 n up down)

pub any_past : {A : Type 0} (g : A → Bool) (ps : List A) (d : A) (at k : ℕ) → at + k ≤ length ps → ((i : ℕ) → at ≤ i → i < at + k → g (get_or ps i d) ≡ false) →
    list_any g (take (at + k) ps) ≡ list_any g (take at ps)
any_past g ps d at zero l h = let e : at + 0 ≡ at = omega arith in ap (λ i. list_any g (take i ps)) e
any_past g ps d at (suc k) l h =
    let e : at + suc k ≡ (at + k) + 1 = omega arith in
    ap (λ i. list_any g (take i ps)) e
    ∙ list_any_more g ps (at + k) d (omega arith)
    ∙ ap (λ b. list_any g (take (at + k) ps) || b) (h (at + k) (omega arith) (omega arith))
    ∙ or_false (list_any g (take (at + k) ps))
    ∙ any_past g ps d at k (omega arith) (λ i low up. h i low (omega arith))

-- ---- ascending keys

module _ {K : Type 0} (cmp : K → K → Ordering) (total : IsTotalOrder cmp) (exact : IsAntisymmetric cmp) where
  -- the keys up to one that is below another
  pub below_middle : (ps : List K) (p q : K) (m : ℕ) → IsStrictlySortedBy cmp ps → slice_get ps m ≡ Some q → cmp q p ≡ Less →
      (i : ℕ) (d : K) → i < m + 1 → cmp (get_or ps i d) p ≡ Less
  below_middle ps p q m s e less i d low = by (cases_lt i m)
    where
      at_middle : (d : K) → cmp (get_or ps m d) p ≡ Less
      at_middle d = ap (λ x. cmp x p) (get_or_from_slice_get ps m q d e) ∙ less

      by : (i < m) ⊎ (m ≤ i) → cmp (get_or ps i d) p ≡ Less
      by (inl l) = total.trans (get_or ps i d) (get_or ps m d) p (Less-from_sorted cmp ps i m d s l (slice_get_within ps m q e)) (at_middle d)
      by (inr r) = let same : m ≡ i = omega (arith, r, low) in subst (λ (j : ℕ). cmp (get_or ps j d) p ≡ Less) same (at_middle d)

  -- those up to a place, and those from there on
  pub below_both : (ps : List K) (p : K) (from low next : ℕ) →
      ((i : ℕ) (d : K) → from ≤ i → i < low → cmp (get_or ps i d) p ≡ Less) →
      ((i : ℕ) (d : K) → low ≤ i → i < next → cmp (get_or ps i d) p ≡ Less) →
      (i : ℕ) (d : K) → from ≤ i → i < next → cmp (get_or ps i d) p ≡ Less
  below_both ps p from low next f g i d a b = by (cases_lt i low)
    where
      by : (i < low) ⊎ (low ≤ i) → cmp (get_or ps i d) p ≡ Less
      by (inl l) = f i d a l
      by (inr r) = g i d r b

  -- pairs of a key and a number

  pub pair_less : (p q : K) (m n : ℕ) → cmp p q ≡ Less → pair_cmp cmp (p, m) (q, n) ≡ Less
  pair_less p q m n e = ap (λ o. ordering_then o (nat_cmp m n)) e

  -- the pairs at a place, and at those above it
  pub pair_up : (ps : List K) (at i : ℕ) (d : K) (after n : ℕ) → IsStrictlySortedBy cmp ps → at ≤ i → i < length ps → after < n →
      pair_cmp cmp (get_or ps at d, after) (get_or ps i d, n) ≡ Less
  pair_up ps at i d after n s low below up = by (i - at) refl
    where
      by : (k : ℕ) → i - at ≡ k → pair_cmp cmp (get_or ps at d, after) (get_or ps i d, n) ≡ Less
      by zero e =
          let same : at ≡ i = omega arith in
          subst (λ (j : ℕ). pair_cmp cmp (get_or ps at d, after) (get_or ps j d, n) ≡ Less) same (behind cmp total (get_or ps at d) after n up)
      by (suc k) e = pair_less (get_or ps at d) (get_or ps i d) after n (Less-from_sorted cmp ps at i d s (omega arith) below)

  module _ (f : K → ℕ → Bool) (after : ℕ) where
    -- the number of a mark that is the first behind a key and a number, if the mark stands at the key
    pub least_here : (p k : K) (j : ℕ) → pair_cmp cmp (p, after) (k, j) ≡ Less → f k j ≡ true →
        ((q : K) (n : ℕ) → pair_cmp cmp (p, after) (q, n) ≡ Less → pair_cmp cmp (q, n) (k, j) ≡ Less → f q n ≡ false) →
        (b : Bool) → eq_by_cmp cmp k p ≡ b → IsLeastAfter (f p) after (if b then Some j else None)
    least_here p k j up its none true e =
        let same : k ≡ p = exact k p (equal_from (cmp k p) e) in (
          above cmp total k p after j (equal_from (cmp k p) e) up,
          ap (λ q. f q j) (sym same) ∙ its,
          λ n low high. none p n (behind cmp total p after n low)
              (subst (λ (q : K). pair_cmp cmp (p, n) (q, j) ≡ Less) (sym same) (behind cmp total p n j high)),
        )
    least_here p k j up its none false e = λ n low. none p n (behind cmp total p after n low)
        (then_lower (cmp p k) (cmp k p) (nat_cmp after j) (nat_cmp n j) up (total.antisymm k p) e)

    -- past keys at which nothing stands
    past : (ps : List K) (at j : ℕ) (d : K) (r : Option ℕ) → at ≤ j → j ≤ length ps →
        ((i n : ℕ) → at ≤ i → i < j → after < n → f (get_or ps i d) n ≡ false) →
        IsLeastAfter (λ n. list_any (λ p. f p n) (take at ps)) after r → IsLeastAfter (λ n. list_any (λ p. f p n) (take j ps)) after r
    past ps at j d r low l h g =
        let e : at + (j - at) ≡ j = omega arith in
        subst (λ (i : ℕ). IsLeastAfter (λ n. list_any (λ p. f p n) (take i ps)) after r) e
        (least_above_like (λ n. list_any (λ p. f p n) (take at ps)) (λ n. list_any (λ p. f p n) (take (at + (j - at)) ps)) after r
        (λ n up. any_past (λ p. f p n) ps d at (j - at) (omega arith) (λ i from to. h i n from (omega arith) up)) g)

    -- past one key at which nothing stands
    pub past_one : (ps : List K) (at : ℕ) (p : K) (r : Option ℕ) → at < length ps → p ≡ get_or ps at p →
        ((n : ℕ) → after < n → f p n ≡ false) →
        IsLeastAfter (λ n. list_any (λ q. f q n) (take at ps)) after r → IsLeastAfter (λ n. list_any (λ q. f q n) (take (at + 1) ps)) after r
    past_one ps at p r low is none h = past ps at (at + 1) p r (omega arith) (omega arith)
        (λ i n from to up. let here : at ≡ i = omega arith in
        subst (λ (j : ℕ). f (get_or ps j p) n ≡ false) here (subst (λ (q : K). f q n ≡ false) is (none n up))) h

    -- one key, and those behind it up to the mark
    pub next_least : (ps : List K) (at j : ℕ) (p k : K) (number : ℕ) → IsStrictlySortedBy cmp ps → at < length ps →
        p ≡ get_or ps at p → at + 1 ≤ j → j ≤ length ps →
        ((q : K) (n : ℕ) → pair_cmp cmp (p, after) (q, n) ≡ Less → pair_cmp cmp (q, n) (k, number) ≡ Less → f q n ≡ false) →
        ((i : ℕ) (d : K) → at + 1 ≤ i → i < j → cmp (get_or ps i d) k ≡ Less) → (r : Option ℕ) →
        IsLeastAfter (λ n. list_any (λ q. f q n) (take at ps) || f p n) after r → IsLeastAfter (λ n. list_any (λ q. f q n) (take j ps)) after r
    next_least ps at j p k number s l is low high none below r h =
        past ps (at + 1) j p r low high
        (λ i n from to up. none (get_or ps i p) n
        (subst (λ (q : K). pair_cmp cmp (q, after) (get_or ps i p, n) ≡ Less) (sym is)
        (pair_up ps at i p after n s (omega arith) (omega arith) up))
        (pair_less (get_or ps i p) k n number (below i p from to)))
        (one_more f ps at after p l p is r h)

    -- no mark behind a key: none at those behind it
    pub none_left : (ps : List K) (at : ℕ) (p : K) (r : Option ℕ) → IsStrictlySortedBy cmp ps → at < length ps → p ≡ get_or ps at p →
        ((q : K) (n : ℕ) → pair_cmp cmp (p, after) (q, n) ≡ Less → f q n ≡ false) →
        IsLeastAfter (λ n. list_any (λ q. f q n) (take at ps)) after r → IsLeastAfter (λ n. list_any (λ q. f q n) ps) after r
    none_left ps at p r s l is none h =
        all_least f ps (length ps) after r (omega arith) (past ps at (length ps) p r (omega arith) (omega arith)
        (λ i n from to up. none (get_or ps i p) n
        (subst (λ (q : K). pair_cmp cmp (q, after) (get_or ps i p, n) ≡ Less) (sym is) (pair_up ps at i p after n s from to up))) h)
