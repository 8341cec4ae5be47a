-- The keys of indices: along ascending ones they never fall, so the first has the least and the last the greatest.
use Rattle.std.proofs.Common.{◌≡◌, ℕ, ◌+◌, ◌<◌, ◌≤◌, max, Bool, true, suc, zero, ℤ, pos, negsuc, ◌<ℤ◌, ◌≤ℤ◌, List, [], ◌∷◌}
use Rattle.std.proofs.Common.{length, get_or, refl, ap, ◌∙◌, arith}
use Rattle.std.proofs.lemmas.Cmp.{int_ranked, eq_by_cmp_equiv}
use Rattle.std.proofs.lemmas.Int.{ints}
use Rattle.std.proofs.lemmas.List.Folds.{list_any_at}
use Rattle.std.specs.Cmp.{IsTotalOrder}
use Rattle.std.specs.Cmp.Lexicographic.{slice_cmp}
use Rattle.std.specs.FinMap.{IsAntisymmetric}
use Rattle.std.specs.List.{list_any, AllByRecursion}
use Rattle.std.specs.List.Sorted.{IsStrictlySortedBy}
use Rattle.std.specs.Ordering.{MatchOrdering, eq_by_cmp, int_cmp, is_eq, ordering_then}
use Rattle.std.specs.declared.cmp.Ordering.{Ordering}
use Rattle.std.specs.declared.cmp.Ordering.TheVariants.{Less, Equal, Greater}
use Rattle.wb_footprints.specs.Keys.{above_least, key_of}
use Rattle.wb_footprints.specs.Points.{Coordinates, point_cmp}
use Rattle.wb_footprints.proofs.InBlocks.{or_in, or_last}
use Rattle.wb_footprints.proofs.Setting.{either}

-- ---- of points

rises : (x y : ℤ) → x ≤ℤ y → above_least x ≤ above_least y
rises (pos m) (pos n) l = omega (arith, ints, l)
rises (pos m) (negsuc n) l = absurd (omega (arith, ints, l))
rises (negsuc m) (pos n) l = omega (arith, ints, l)
rises (negsuc m) (negsuc n) l = omega (arith, ints, l)

first_tells : (x y : ℤ) (xs ys : Coordinates) (o : Ordering) → MatchOrdering o (x <ℤ y) (x ≡ y) (y <ℤ x) →
    ordering_then o (slice_cmp int_cmp xs ys) ≡ Less → max 1 (above_least x) ≤ max 1 (above_least y)
first_tells x y xs ys Less h e = let l : above_least x ≤ above_least y = rises x y (omega (arith, ints, h)) in omega arith
first_tells x y xs ys Equal h e = let l : above_least x ≤ above_least y = rises x y (omega (arith, ints, h)) in omega arith
first_tells x y xs ys Greater h e = cc

-- points in order have keys in order
pub key_rises : (a b : Coordinates) → point_cmp a b ≡ Less → key_of a ≤ key_of b
key_rises [] [] e = cc
key_rises [] (y ∷ ys) e = omega arith
key_rises (x ∷ xs) [] e = cc
key_rises (x ∷ xs) (y ∷ ys) e = first_tells x y xs ys (int_cmp x y) (int_ranked x y (int_cmp x y) refl) e

pub key_some : (p : Coordinates) → 0 < key_of p
key_some [] = omega arith
key_some (x ∷ xs) = omega arith

-- ---- of any

equal_from : (o : Ordering) → is_eq o ≡ true → o ≡ Equal
equal_from Less e = cc
equal_from Equal e = refl
equal_from Greater e = cc

module _ {K : Type 0} (cmp : K → K → Ordering) (total : IsTotalOrder cmp) (exact : IsAntisymmetric cmp) (key : K → ℕ) where
  abbrev pub in_all : List K → K → Bool
  in_all ps p = list_any (λ q. eq_by_cmp cmp q p) ps

  -- the key of one of some is never greater than those of what is above it
  abbrev pub Rises : List K → Type 0
  Rises ps = (a b : K) → in_all ps a ≡ true → cmp a b ≡ Less → key a ≤ key b

  same_key : (x p : K) → eq_by_cmp cmp x p ≡ true → key x ≡ key p
  same_key x p e = ap key (exact x p (equal_from (cmp x p) e))

  itself : (x : K) → eq_by_cmp cmp x x ≡ true
  itself x = (eq_by_cmp_equiv total).refl x

  least_by : (ys : List K) (p x : K) → ((y : K) → cmp x y ≡ Less → key x ≤ key y) → AllByRecursion (λ y. cmp x y ≡ Less) ys → in_all ys p ≡ true →
      key x ≤ key p
  least_by [] p x h a there = cc
  least_by (y ∷ ys) p x h a there = either (eq_by_cmp cmp y p) (in_all ys p) (key x ≤ key p)
      (λ same. let e = same_key y p same in let l = h y a.0 in omega (arith, e, l)) (λ more. least_by ys p x h a.1 more) there

  -- the first has the least key
  pub first_key : (ps : List K) (p d : K) → IsStrictlySortedBy cmp ps → Rises ps → in_all ps p ≡ true → key (get_or ps 0 d) ≤ key p
  unfolding IsStrictlySortedBy
  first_key [] p d s h there = cc
  first_key (x ∷ xs) p d s h there = either (eq_by_cmp cmp x p) (in_all xs p) (key x ≤ key p)
      (λ same. let e = same_key x p same in omega (arith, e))
      (λ more. least_by xs p x (λ y l. h x y (or_in (eq_by_cmp cmp x x) (in_all xs x) (itself x)) l) s.0 more) there

  -- the last has the greatest
  pub last_key : (ps : List K) (p d : K) (i : ℕ) → IsStrictlySortedBy cmp ps → Rises ps → i + 1 ≡ length ps → in_all ps p ≡ true →
      key p ≤ key (get_or ps i d)
  unfolding IsStrictlySortedBy
  last_key [] p d i s h e there = cc
  last_key (x ∷ []) p d zero s h e there = either (eq_by_cmp cmp x p) (in_all [] p) (key p ≤ key x)
      (λ same. let k = same_key x p same in omega (arith, k)) (λ none. cc) there
  last_key (x ∷ []) p d (suc i) s h e there = absurd (omega (arith, e))
  last_key (x ∷ y ∷ ys) p d zero s h e there = absurd (omega (arith, e))
  last_key (x ∷ y ∷ ys) p d (suc i) s h e there =
      let rest : Rises (y ∷ ys) = λ a b at l. h a b (or_last (eq_by_cmp cmp x a) (in_all (y ∷ ys) a) at) l in
      let last = last_key (y ∷ ys) y d i s.1 rest (omega (arith, e)) (or_in (eq_by_cmp cmp y y) (in_all ys y) (itself y)) in
      either (eq_by_cmp cmp x p) (in_all (y ∷ ys) p) (key p ≤ key (get_or (y ∷ ys) i d))
      (λ same.
      let k = same_key x p same in
      let l = h x y (or_in (eq_by_cmp cmp x x) (in_all (y ∷ ys) x) (itself x)) s.0.0 in
      omega (arith, k, l, last))
      (λ more. last_key (y ∷ ys) p d i s.1 rest (omega (arith, e)) more) there

  -- one that stands at a place is among them
  pub among : (ps : List K) (i : ℕ) (p : K) → i < length ps → get_or ps i p ≡ p → in_all ps p ≡ true
  among ps i p l e = list_any_at (λ q. eq_by_cmp cmp q p) ps i p l (ap (λ q. eq_by_cmp cmp q p) e ∙ itself p)
