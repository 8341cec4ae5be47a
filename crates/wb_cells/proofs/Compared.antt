-- Lists of which one has ended compare by their lengths.
use Rattle.std.proofs.Common.{◌≡◌, ℕ, zero, suc, ◌<◌, ◌≤◌, List, [], ◌∷◌, length, drop, min, refl, sym, ◌∙◌, arith}
use Rattle.std.specs.declared.cmp.Ordering.{Ordering}
use Rattle.std.specs.declared.cmp.Ordering.TheVariants.{Less, Equal, Greater}
use Rattle.std.specs.Cmp.Lexicographic.{slice_cmp}
use Rattle.std.specs.Ordering.{nat_cmp, MatchOrdering}
use Rattle.std.proofs.lemmas.Cmp.{ranked}

-- ---- numbers

is_less : (x y : ℕ) → x < y → nat_cmp x y ≡ Less
is_less x y l = by (nat_cmp x y) (ranked x y (nat_cmp x y) refl)
  where
    by : (o : Ordering) → MatchOrdering o (x < y) (x ≡ y) (y < x) → o ≡ Less
    by Less h = refl
    by Equal h = absurd (omega arith)
    by Greater h = absurd (omega arith)

is_same : (x y : ℕ) → x ≡ y → nat_cmp x y ≡ Equal
is_same x y e = by (nat_cmp x y) (ranked x y (nat_cmp x y) refl)
  where
    by : (o : Ordering) → MatchOrdering o (x < y) (x ≡ y) (y < x) → o ≡ Equal
    by Less h = absurd (omega arith)
    by Equal h = refl
    by Greater h = absurd (omega arith)

is_greater : (x y : ℕ) → y < x → nat_cmp x y ≡ Greater
is_greater x y l = by (nat_cmp x y) (ranked x y (nat_cmp x y) refl)
  where
    by : (o : Ordering) → MatchOrdering o (x < y) (x ≡ y) (y < x) → o ≡ Greater
    by Less h = absurd (omega arith)
    by Equal h = absurd (omega arith)
    by Greater h = refl

one_more : (x y : ℕ) → nat_cmp (suc x) (suc y) ≡ nat_cmp x y
one_more x y = by (nat_cmp x y) (ranked x y (nat_cmp x y) refl)
  where
    by : (o : Ordering) → MatchOrdering o (x < y) (x ≡ y) (y < x) → nat_cmp (suc x) (suc y) ≡ o
    by Less h = is_less (suc x) (suc y) (omega arith)
    by Equal h = is_same (suc x) (suc y) (omega arith)
    by Greater h = is_greater (suc x) (suc y) (omega arith)

-- ---- lists

module _ {X : Type 0} (cmp : X → X → Ordering) where
  -- where one ends, the lengths decide
  pub ends : (xs ys : List X) (k : ℕ) → min (length xs) (length ys) ≤ k → k ≤ length xs → k ≤ length ys →
      slice_cmp cmp (drop k xs) (drop k ys) ≡ nat_cmp (length xs) (length ys)
  ends [] [] zero h l m = sym (is_same 0 0 refl)
  ends [] [] (suc k) h l m = absurd (omega arith)
  ends [] (y ∷ ys) zero h l m = sym (is_less 0 (suc (length ys)) (omega arith))
  ends [] (y ∷ ys) (suc k) h l m = absurd (omega arith)
  ends (x ∷ xs) [] zero h l m = sym (is_greater (suc (length xs)) 0 (omega arith))
  ends (x ∷ xs) [] (suc k) h l m = absurd (omega arith)
  ends (x ∷ xs) (y ∷ ys) zero h l m = absurd (omega arith)
  ends (x ∷ xs) (y ∷ ys) (suc k) h l m = ends xs ys k (omega arith) (omega arith) (omega arith) ∙ sym (one_more (length xs) (length ys))
