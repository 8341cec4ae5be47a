-- the row-major place of a locale, one dimension after another
use Rattle.std.proofs.Common.{◌≡◌, ℕ, zero, suc, ◌+◌, ◌*◌, ◌<◌, ◌≤◌, nat_le, Bool, true, false, ◌&&◌, ℤ, pos, negsuc, ◌≤ℤ◌, List, [], ◌∷◌, Some, length}
use Rattle.std.proofs.Common.{slice_get, drop, get_or, refl, sym, ap, subst, ◌∙◌, arith}
use Rattle.std.proofs.Math.Nat.{mul-le-mul_left, mul-le-mul_right}
use Rattle.std.proofs.lemmas.Int.{ints}
use Rattle.wb_range.specs.Sequence.{or_zero}
use Rattle.wb_rect.proofs.Product.{length-rows, get-rows}
use Rattle.wb_dist.specs.Axis.{block_coordinate, cyclic_coordinate, block_cyclic_coordinate}
use Rattle.wb_dist.specs.Grid.{size_of_grid, place, are_positive, is_grid, numbers_from, points}
use Rattle.wb_dist.specs.Maps.{block_coordinates, cyclic_coordinates, block_cyclic_coordinates}
use Rattle.wb_dist.proofs.Lists.{drop_next}
use Rattle.wb_dist.proofs.Counting.{positive_size, positive_next}

-- of the grid the dimensions `rest` are left, of the coordinates `whole` those in `left`; `at` is the place before them
pub record IsPlaced (grid rest : List ℤ) (whole left : List ℕ) (at : ℕ) : Type 0 where
  pub sum : at * size_of_grid rest + place rest left ≡ place grid whole
  pub room : (at + 1) * size_of_grid rest ≤ size_of_grid grid
  pub positive : are_positive rest ≡ true
  pub few : size_of_grid grid ≤ 256
  pub listed : (t : ℕ) → slice_get (points rest) t ≡ Some left → slice_get (points grid) (at * size_of_grid rest + t) ≡ Some whole

length-numbers_from : (k n : ℕ) → length (numbers_from k n) ≡ n
length-numbers_from k zero = refl
length-numbers_from k (suc n) = omega (arith, length-numbers_from (k + 1) n)

number_at : (k n p q : ℕ) → p < n → q ≡ k + p → slice_get (numbers_from k n) p ≡ Some q
number_at k zero p q l e = absurd (omega arith)
number_at k (suc n) zero q l e = ap (λ (m : ℕ). Some m) (omega arith)
number_at k (suc n) (suc p) q l e = number_at (k + 1) n p q (omega arith) (omega arith)

length-points : (grid : List ℤ) → length (points grid) ≡ size_of_grid grid
length-points [] = refl
length-points (n ∷ ns) =
    length-rows (numbers_from 0 (or_zero n)) (points ns)
    ∙ ap (λ (m : ℕ). m * length (points ns)) (length-numbers_from 0 (or_zero n))
    ∙ ap (λ (m : ℕ). or_zero n * m) (length-points ns)

-- the place of a point behind at * n + p whole rows
same_place : (at c p s l t : ℕ) → l ≡ s → at * (c * s) + (p * l + t) ≡ (at * c + p) * s + t
same_place at c p s l t e = let f : p * l ≡ p * s = ap (λ (m : ℕ). p * m) e in omega arith

first_true : (a b : Bool) → (a && b) ≡ true → a ≡ true
first_true true b h = refl
first_true false b h = absurd (cc)

second_true : (a b : Bool) → (a && b) ≡ true → b ≡ true
second_true true b h = h
second_true false b h = absurd (cc)

pub positive_grid : (grid : List ℤ) → is_grid grid ≡ true → are_positive grid ≡ true
positive_grid grid h = first_true (are_positive grid) (nat_le (size_of_grid grid) 256) h

pub some_locales : (grid : List ℤ) → is_grid grid ≡ true → 0 < size_of_grid grid
some_locales grid h = positive_size grid (positive_grid grid h)

-- an entry of a list of positive numbers
pub positive_entry : (n : ℤ) (ns : List ℤ) → are_positive (n ∷ ns) ≡ true → pos 1 ≤ℤ n
positive_entry (pos zero) ns h = absurd (cc)
positive_entry (pos (suc n)) ns h = omega (arith, ints)
positive_entry (negsuc n) ns h = absurd (cc)

positive_rest : (n : ℕ) (ns : List ℤ) → are_positive (pos n ∷ ns) ≡ true → are_positive ns ≡ true
positive_rest zero ns h = absurd (cc)
positive_rest (suc n) ns h = sym (positive_next n ns) ∙ h

pub record IsRoom (c at p : ℕ) : Type 0 where
  pub few : c ≤ 256
  pub scaled : at * c < 256
  pub next : at * c + p < 256

-- one dimension more, with c locales and the coordinate p
pub placed_more : (grid ns : List ℤ) (whole left : List ℕ) (c at p : ℕ) → IsPlaced grid (pos c ∷ ns) whole (p ∷ left) at → p < c →
    IsPlaced grid ns whole left (at * c + p)
placed_more grid ns whole left c at p h l =
    let s = size_of_grid ns in
    let m : (at * c + p + 1) * s ≤ (at * c + c) * s = mul-le-mul_right s (omega arith) in
    record {
      sum = omega (arith, h.sum);
      room = omega (arith, h.room);
      positive = positive_rest c ns h.positive;
      few = h.few;
      listed = λ t e.
          let i = p * length (points ns) + t in
          let f = get-rows (numbers_from 0 c) (points ns) p t i p left refl (number_at 0 c p p l (omega arith)) e in
          subst (λ (n : ℕ). slice_get (points grid) n ≡ Some whole) (same_place at c p s (length (points ns)) t (length-points ns)) (h.listed i f);
    }

pub placed_room : (grid ns : List ℤ) (whole left : List ℕ) (c at p : ℕ) → IsPlaced grid (pos c ∷ ns) whole left at → p < c → IsRoom c at p
placed_room grid ns whole left c at p h l =
    let s = size_of_grid ns in
    let one : 1 ≤ s = positive_size ns (positive_rest c ns h.positive) in
    let m : (at * c + c) * 1 ≤ (at * c + c) * s = mul-le-mul_left (at * c + c) one in
    let f : at * c + c ≤ 256 = omega (arith, h.room, h.few) in
    record { few = omega arith; scaled = omega arith; next = omega arith }

pub listed_all : (grid : List ℤ) (whole : List ℕ) (at : ℕ) → IsPlaced grid [] whole [] at → slice_get (points grid) at ≡ Some whole
listed_all grid whole at h = subst (λ (n : ℕ). slice_get (points grid) n ≡ Some whole) (omega arith) (h.listed 0 refl)

-- ---- one dimension of each distribution

next_count : (grid : List ℤ) (k c : ℕ) → k < length grid → pos c ≡ get_or grid k (pos 0) → drop k grid ≡ pos c ∷ drop (k + 1) grid
next_count grid k c l e = drop_next grid k (pos 0) l ∙ ap (λ (n : ℤ). n ∷ drop (k + 1) grid) (sym e)

pub block_more : (low high grid is : List ℤ) (whole : List ℕ) (k c at p : ℕ) →
    IsPlaced grid (drop k grid) whole (block_coordinates (drop k low) (drop k high) (drop k grid) (drop k is)) at →
    k < length low → k < length high → k < length grid → k < length is → pos c ≡ get_or grid k (pos 0) →
    p ≡ block_coordinate (get_or low k (pos 0)) (get_or high k (pos 0)) (pos c) (get_or is k (pos 0)) → p < c →
    IsPlaced grid (drop (k + 1) grid) whole (block_coordinates (drop (k + 1) low) (drop (k + 1) high) (drop (k + 1) grid) (drop (k + 1) is)) (at * c + p)
block_more low high grid is whole k c at p h a b d e f v l =
    placed_more grid (drop (k + 1) grid) whole (block_coordinates (drop (k + 1) low) (drop (k + 1) high) (drop (k + 1) grid) (drop (k + 1) is)) c at p
    (rw v (rw (next_count grid k c d f, drop_next low k (pos 0) a, drop_next high k (pos 0) b, drop_next is k (pos 0) e) at h)) l

pub cyclic_more : (start grid is : List ℤ) (whole : List ℕ) (k c at p : ℕ) →
    IsPlaced grid (drop k grid) whole (cyclic_coordinates (drop k start) (drop k grid) (drop k is)) at →
    k < length start → k < length grid → k < length is → pos c ≡ get_or grid k (pos 0) →
    p ≡ cyclic_coordinate (get_or start k (pos 0)) (pos c) (get_or is k (pos 0)) → p < c →
    IsPlaced grid (drop (k + 1) grid) whole (cyclic_coordinates (drop (k + 1) start) (drop (k + 1) grid) (drop (k + 1) is)) (at * c + p)
cyclic_more start grid is whole k c at p h a d e f v l =
    placed_more grid (drop (k + 1) grid) whole (cyclic_coordinates (drop (k + 1) start) (drop (k + 1) grid) (drop (k + 1) is)) c at p
    (rw v (rw (next_count grid k c d f, drop_next start k (pos 0) a, drop_next is k (pos 0) e) at h)) l

pub block_cyclic_more : (start size grid is : List ℤ) (whole : List ℕ) (k b c at p : ℕ) →
    IsPlaced grid (drop k grid) whole (block_cyclic_coordinates (drop k start) (drop k size) (drop k grid) (drop k is)) at →
    k < length start → k < length size → k < length grid → k < length is → pos b ≡ get_or size k (pos 0) → pos c ≡ get_or grid k (pos 0) →
    p ≡ block_cyclic_coordinate (get_or start k (pos 0)) (pos b) (pos c) (get_or is k (pos 0)) → p < c →
    IsPlaced grid (drop (k + 1) grid) whole (block_cyclic_coordinates (drop (k + 1) start) (drop (k + 1) size) (drop (k + 1) grid) (drop (k + 1) is))
    (at * c + p)
block_cyclic_more start size grid is whole k b c at p h a i d e j f v l =
    placed_more grid (drop (k + 1) grid) whole (block_cyclic_coordinates (drop (k + 1) start) (drop (k + 1) size) (drop (k + 1) grid) (drop (k + 1) is)) c at p
    (rw v (rw (next_count grid k c d f, next_count size k b i j, drop_next start k (pos 0) a, drop_next is k (pos 0) e) at h)) l

-- what the next dimension needs of its entry of the grid
pub record IsEntry (n : ℤ) (at : ℕ) : Type 0 where
  pub positive : pos 1 ≤ℤ n
  pub room : (c p : ℕ) → pos c ≡ n → p < c → IsRoom c at p

pub entry_at : (grid : List ℤ) (whole left : List ℕ) (k at : ℕ) → IsPlaced grid (drop k grid) whole left at → k < length grid →
    IsEntry (get_or grid k (pos 0)) at
entry_at grid whole left k at h l = record {
  positive = positive_entry (get_or grid k (pos 0)) (drop (k + 1) grid) (rw (drop_next grid k (pos 0) l) at h.positive);
  room = λ c p e m. placed_room grid (drop (k + 1) grid) whole left c at p (rw (next_count grid k c l e) at h) m;
}

pub positive_after : (ns : List ℤ) (k : ℕ) → are_positive (drop k ns) ≡ true → k < length ns → are_positive (drop (k + 1) ns) ≡ true
positive_after ns k h l = by (get_or ns k (pos 0)) (rw (drop_next ns k (pos 0) l) at h)
  where
    by : (n : ℤ) → are_positive (n ∷ drop (k + 1) ns) ≡ true → are_positive (drop (k + 1) ns) ≡ true
    by n g = second_true _ (are_positive (drop (k + 1) ns)) g
