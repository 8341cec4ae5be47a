-- Marks at points of one coordinate, by it alone.
use Rattle.std.proofs.Common.{◌≡◌, ℕ, ℤ, false, [], ◌∷◌, Some, None, refl, sym, ap, ◌∙◌}
use Rattle.std.specs.Ordering.{int_cmp, nat_cmp, ordering_then}
use Rattle.std.specs.declared.cmp.Ordering.{Ordering}
use Rattle.std.specs.declared.cmp.Ordering.TheVariants.{Less, Equal, Greater}
use Rattle.wb_footprints.specs.declared.marks.key_marks.Marks.{Marks}
use Rattle.wb_footprints.specs.Marks.{pair_cmp, marked}
use Rattle.wb_footprints.specs.Points.{Coordinates, point_cmp}
use Rattle.wb_footprints.specs.PointMarks.{single_of, at_single}

then_equal : (o : Ordering) → ordering_then o Equal ≡ o
then_equal Less = refl
then_equal Equal = refl
then_equal Greater = refl

-- two such points stand as their coordinates do
one_by_one : (i j : ℤ) → point_cmp (i ∷ []) (j ∷ []) ≡ int_cmp i j
one_by_one i j = then_equal (int_cmp i j)

by_pairs : (i j : ℤ) (m n : ℕ) → pair_cmp point_cmp (i ∷ [], m) (j ∷ [], n) ≡ pair_cmp int_cmp (i, m) (j, n)
by_pairs i j m n = ap (λ o. ordering_then o (nat_cmp m n)) (one_by_one i j)

pub single_up : (i j : ℤ) (m n : ℕ) → pair_cmp int_cmp (i, m) (j, n) ≡ Less → pair_cmp point_cmp (i ∷ [], m) (j ∷ [], n) ≡ Less
single_up i j m n e = by_pairs i j m n ∙ e

-- a point with this coordinate alone
pub is_single : (p : Coordinates) (i : ℤ) → single_of p ≡ Some i → p ≡ i ∷ []
is_single [] i e = cc
is_single (j ∷ []) i e = cc
is_single (j ∷ (k ∷ ks)) i e = cc

pub none_at_others : (m : Marks ℤ) (p : Coordinates) (n : ℕ) → single_of p ≡ None → at_single m p n ≡ false
none_at_others m [] n e = refl
none_at_others m (j ∷ []) n e = cc
none_at_others m (j ∷ (k ∷ ks)) n e = refl

-- what is known of the marks behind a coordinate, of points
module _ (m : Marks ℤ) (i : ℤ) (after : ℕ) where
  pub none_before : (k : ℤ) (j : ℕ) →
      ((x : ℤ) (n : ℕ) → pair_cmp int_cmp (i, after) (x, n) ≡ Less → pair_cmp int_cmp (x, n) (k, j) ≡ Less → marked int_cmp m x n ≡ false) →
      (q : Coordinates) (n : ℕ) → pair_cmp point_cmp (i ∷ [], after) (q, n) ≡ Less → pair_cmp point_cmp (q, n) (k ∷ [], j) ≡ Less → at_single m q n ≡ false
  none_before k j none [] n up down = refl
  none_before k j none (x ∷ []) n up down = none x n (sym (by_pairs i x after n) ∙ up) (sym (by_pairs x k n j) ∙ down)
  none_before k j none (x ∷ (y ∷ ys)) n up down = refl

  pub none_behind : ((x : ℤ) (n : ℕ) → pair_cmp int_cmp (i, after) (x, n) ≡ Less → marked int_cmp m x n ≡ false) →
      (q : Coordinates) (n : ℕ) → pair_cmp point_cmp (i ∷ [], after) (q, n) ≡ Less → at_single m q n ≡ false
  none_behind none [] n up = refl
  none_behind none (x ∷ []) n up = none x n (sym (by_pairs i x after n) ∙ up)
  none_behind none (x ∷ (y ∷ ys)) n up = refl
