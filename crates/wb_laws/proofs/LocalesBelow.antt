-- A mapping puts each index of its rank on one of its locales.
use Rattle.std.proofs.Common.{◌≡◌, ℕ, zero, suc, ◌+◌, ◌*◌, ◌/◌, ◌<◌, ◌≤◌, Bool, true, false, ◌&&◌, ℤ, pos, negsuc, ◌+ℤ◌, ◌-ℤ◌, ◌*ℤ◌, ◌≤ℤ◌, int_lt, List, [], ◌∷◌}
use Rattle.std.proofs.Common.{refl, sym, subst, ◌∙◌, arith}
use Rattle.std.specs.Prelude.{if◌then◌else◌}
use Rattle.std.specs.Int.{int_div_euclid, int_rem_euclid}
use Rattle.std.proofs.lemmas.Bool.{ltb-false}
use Rattle.std.proofs.Math.Nat.{mod-lt, div-lt_iff_lt-mul, mul-le-mul_right}
use Rattle.std.proofs.lemmas.Int.{ints}
use Rattle.wb_range.specs.Sequence.{or_zero}
use Rattle.wb_dist.specs.Axis.{block_coordinate, cyclic_coordinate, block_cyclic_coordinate}
use Rattle.wb_dist.specs.Grid.{size_of_grid, place, are_positive, is_grid}
use Rattle.wb_dist.specs.Maps.{LayoutMap, whole, block, cyclic, block_cyclic, block_coordinates, cyclic_coordinates, block_cyclic_coordinates, low_corner, high_corner}
use Rattle.wb_dist.specs.Maps.{is_layout, locale_of, locale_count_of}
use Rattle.wb_dist.proofs.Counting.{positive_size, positive_next}
use Rattle.wb_dist.proofs.Places.{positive_grid}

-- ---- one dimension

rem_below : (z : ℤ) (n : ℕ) → or_zero (int_rem_euclid z (pos (suc n))) < suc n
rem_below (pos a) n = mod-lt a (omega arith)
rem_below (negsuc a) n = omega arith

below-cyclic : (start i : ℤ) (n : ℕ) → cyclic_coordinate start (pos (suc n)) i < suc n
below-cyclic start i n = rem_below (i -ℤ start) n

below-block_cyclic : (start size i : ℤ) (n : ℕ) → block_cyclic_coordinate start size (pos (suc n)) i < suc n
below-block_cyclic start size i n = rem_below (int_div_euclid (i -ℤ start) size) n

-- how far z lies above low is no more than how far high does
quotient_below : (a b n : ℕ) → a < suc b → a * suc n / suc b < suc n
quotient_below a b n h = (div-lt_iff_lt-mul (omega arith)).1 (
    let m : (suc a) * suc n ≤ suc b * suc n = mul-le-mul_right (suc n) h in omega arith)

scaled_below : (x y : ℤ) (n : ℕ) → pos 0 ≤ℤ x → x ≤ℤ y → or_zero (int_div_euclid (x *ℤ pos (suc n)) (y +ℤ pos 1)) < suc n
scaled_below (pos a) (pos b) n low high = subst (λ m. a * suc n / m < suc n) (omega arith) (quotient_below a b n (omega (arith, ints)))
scaled_below (pos a) (negsuc b) n low high = absurd (omega (arith, ints))
scaled_below (negsuc a) y n low high = absurd (omega (arith, ints))

not_less : (x y : ℤ) → int_lt x y ≡ false → y ≤ℤ x
not_less (pos a) (pos b) e = let h : b ≤ a = ltb-false a b e in omega (arith, ints)
not_less (pos a) (negsuc b) e = omega (arith, ints)
not_less (negsuc a) (pos b) e = absurd (cc)
not_less (negsuc a) (negsuc b) e = let h : a ≤ b = ltb-false b a e in omega (arith, ints)

-- where low is not above i, and i not above high
between_below : (low high i : ℤ) (n : ℕ) → int_lt i low ≡ false → int_lt high i ≡ false →
    or_zero (int_div_euclid ((i -ℤ low) *ℤ pos (suc n)) (high -ℤ low +ℤ pos 1)) < suc n
between_below low high i n above within =
    let a : low ≤ℤ i = not_less i low above in
    let b : i ≤ℤ high = not_less high i within in
    scaled_below (i -ℤ low) (high -ℤ low) n (omega (arith, ints)) (omega (arith, ints))

below-block : (low high i : ℤ) (n : ℕ) → block_coordinate low high (pos (suc n)) i < suc n
below-block low high i n = by (int_lt i low) (int_lt high i) refl refl
  where
    by : (below above : Bool) → int_lt i low ≡ below → int_lt high i ≡ above →
        (if below then 0 else if above then or_zero (pos (suc n) -ℤ pos 1)
        else or_zero (int_div_euclid ((i -ℤ low) *ℤ pos (suc n)) (high -ℤ low +ℤ pos 1))) < suc n
    by true above e f = omega arith
    by false true e f = let one_less : pos (suc n) -ℤ pos 1 ≡ pos n = omega (arith, ints) in rw one_less (omega arith)
    by false false e f = between_below low high i n e f

-- ---- all of them

-- a coordinate in one dimension more
placed_below : (p n s t : ℕ) → p < suc n → t < s → p * s + t < suc n * s
placed_below p n s t low rest =
    let m : suc p * s ≤ suc n * s = mul-le-mul_right s low in omega arith

-- the coordinates of a locale, as many as there are, each within its dimension
data Within : List ℤ → List ℕ → Type 0 where
  ends : (grid : List ℤ) → are_positive grid ≡ true → Within grid []
  goes_on : (n : ℕ) (grid : List ℤ) (p : ℕ) (ps : List ℕ) → p < suc n → Within grid ps → Within (pos (suc n) ∷ grid) (p ∷ ps)

none_placed : (grid : List ℤ) → are_positive grid ≡ true → place grid [] < size_of_grid grid
none_placed [] positive = omega arith
none_placed (n ∷ ns) positive = positive_size (n ∷ ns) positive

within_grid : (grid : List ℤ) (ps : List ℕ) → Within grid ps → place grid ps < size_of_grid grid
within_grid grid ps (ends g positive) = none_placed g positive
within_grid grid ps (goes_on n ns p qs low rest) = placed_below p n (size_of_grid ns) (place ns qs) low (within_grid ns qs rest)

-- by a test of the first entry
first_positive : (n : ℤ) (ns : List ℤ) → are_positive (n ∷ ns) ≡ true → (m : ℕ) × (n ≡ pos (suc m)) × (are_positive ns ≡ true)
first_positive (pos zero) ns e = absurd (cc)
first_positive (pos (suc n)) ns e = (n, refl, sym (positive_next n ns) ∙ e)
first_positive (negsuc n) ns e = absurd (cc)

within_more : (n : ℤ) (ns : List ℤ) (p : ℕ) (ps : List ℕ) → are_positive (n ∷ ns) ≡ true → ((m : ℕ) → n ≡ pos (suc m) → p < suc m) →
    (are_positive ns ≡ true → Within ns ps) → Within (n ∷ ns) (p ∷ ps)
within_more n ns p ps positive low rest =
    let first = first_positive n ns positive in
    subst (λ k. Within (k ∷ ns) (p ∷ ps)) (sym first.1) (goes_on first.0 ns p ps (low first.0 first.1) (rest first.2))

within-cyclic : (start grid is : List ℤ) → are_positive grid ≡ true → Within grid (cyclic_coordinates start grid is)
within-cyclic (s ∷ ss) (n ∷ ns) (i ∷ is) e = within_more n ns (cyclic_coordinate s n i) (cyclic_coordinates ss ns is) e
    (λ m same. subst (λ k. cyclic_coordinate s k i < suc m) (sym same) (below-cyclic s i m)) (within-cyclic ss ns is)
within-cyclic [] grid is e = ends grid e
within-cyclic (s ∷ ss) [] is e = ends [] e
within-cyclic (s ∷ ss) (n ∷ ns) [] e = ends (n ∷ ns) e

within-block : (low high grid is : List ℤ) → are_positive grid ≡ true → Within grid (block_coordinates low high grid is)
within-block (l ∷ ls) (h ∷ hs) (n ∷ ns) (i ∷ is) e = within_more n ns (block_coordinate l h n i) (block_coordinates ls hs ns is) e
    (λ m same. subst (λ k. block_coordinate l h k i < suc m) (sym same) (below-block l h i m)) (within-block ls hs ns is)
within-block [] high grid is e = ends grid e
within-block (l ∷ ls) [] grid is e = ends grid e
within-block (l ∷ ls) (h ∷ hs) [] is e = ends [] e
within-block (l ∷ ls) (h ∷ hs) (n ∷ ns) [] e = ends (n ∷ ns) e

within-block_cyclic : (start size grid is : List ℤ) → are_positive grid ≡ true → Within grid (block_cyclic_coordinates start size grid is)
within-block_cyclic (s ∷ ss) (b ∷ bs) (n ∷ ns) (i ∷ is) e = within_more n ns (block_cyclic_coordinate s b n i) (block_cyclic_coordinates ss bs ns is) e
    (λ m same. subst (λ k. block_cyclic_coordinate s b k i < suc m) (sym same) (below-block_cyclic s b i m)) (within-block_cyclic ss bs ns is)
within-block_cyclic [] size grid is e = ends grid e
within-block_cyclic (s ∷ ss) [] grid is e = ends grid e
within-block_cyclic (s ∷ ss) (b ∷ bs) [] is e = ends [] e
within-block_cyclic (s ∷ ss) (b ∷ bs) (n ∷ ns) [] e = ends (n ∷ ns) e

-- ---- a mapping

pub last_of : (a b : Bool) → (a && b) ≡ true → b ≡ true
last_of true b e = e
last_of false b e = absurd (cc)

-- a mapping for domains of some rank has a locale for each index
pub locale_below : (rank : ℕ) (m : LayoutMap) (is : List ℤ) → is_layout rank m ≡ true → locale_of m is < locale_count_of m
locale_below rank whole is e = omega arith
locale_below rank (block m) is e = within_grid m.grid _ (within-block (low_corner m.box) (high_corner m.box) m.grid is
    (positive_grid m.grid (last_of _ (is_grid m.grid) e)))
locale_below rank (cyclic m) is e = within_grid m.grid _ (within-cyclic m.start m.grid is (positive_grid m.grid (last_of _ (is_grid m.grid) e)))
locale_below rank (block_cyclic m) is e = within_grid m.grid _ (within-block_cyclic m.start m.size m.grid is
    (positive_grid m.grid (last_of _ (is_grid m.grid) e)))
