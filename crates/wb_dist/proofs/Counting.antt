-- counting the locales of a grid, one dimension after another
use Rattle.std.proofs.Common.{◌≡◌, ℕ, zero, suc, ◌*◌, ◌<◌, ◌≤◌, nat_le, Bool, true, false, ◌&&◌, ℤ, pos, negsuc, int_le, List, [], ◌∷◌, Some, None, refl, sym}
use Rattle.std.proofs.Common.{ap, ◌∙◌, arith}
use Rattle.std.specs.Prelude.{if◌then◌else◌}
use Rattle.std.proofs.Math.Nat.{mul-le-mul_left}
use Rattle.wb_range.specs.Sequence.{or_zero}
use Rattle.wb_dist.specs.Grid.{size_of_grid, are_positive, is_grid}

-- the dimensions `rest` of the grid `all` are left; those before them have `locales` places
pub record IsCounted (all rest : List ℤ) (locales : ℕ) : Type 0 where
  pub product : locales * size_of_grid rest ≡ size_of_grid all
  pub positive : are_positive rest ≡ are_positive all
  pub some : 0 < locales
  pub few : locales ≤ 256

-- whether one dimension more keeps within the limits
abbrev pub fits : (locales : ℕ) (count : ℤ) → Bool
fits locales count = int_le (pos 1) count && nat_le (locales * or_zero count) 256

pub positive_first : (n : ℕ) → int_le (pos 1) (pos (suc n)) ≡ true
positive_first n = grind arith

pub positive_next : (n : ℕ) (ns : List ℤ) → are_positive (pos (suc n) ∷ ns) ≡ are_positive ns
positive_next n ns = ap (λ b. b && are_positive ns) (positive_first n)

fits_next : (locales n : ℕ) → fits locales (pos (suc n)) ≡ nat_le (locales * suc n) 256
fits_next locales n = ap (λ b. b && nat_le (locales * suc n) 256) (positive_first n)

pub positive_size : (ns : List ℤ) → are_positive ns ≡ true → 0 < size_of_grid ns
positive_size [] h = omega arith
positive_size (pos zero ∷ ns) h = absurd (cc)
positive_size (pos (suc n) ∷ ns) h = let i : 0 < size_of_grid ns = positive_size ns (sym (positive_next n ns) ∙ h) in omega (arith, mul-le-mul_left (suc n) i)
positive_size (negsuc n ∷ ns) h = absurd (cc)

pub counted_more : (all : List ℤ) (n : ℤ) (ns : List ℤ) (locales : ℕ) → IsCounted all (n ∷ ns) locales → fits locales n ≡ true →
    IsCounted all ns (locales * or_zero n)
counted_more all (pos zero) ns locales h t = absurd (cc)
counted_more all (pos (suc n)) ns locales h t = record {
  product = omega (arith, h.product);
  positive = sym (positive_next n ns) ∙ h.positive;
  some = let s : 1 ≤ locales = h.some in let z : 1 ≤ suc n = omega arith in omega (arith, mul-le-mul_left locales z);
  few = let f : nat_le (locales * suc n) 256 ≡ true = sym (fits_next locales n) ∙ t in grind arith;
}
counted_more all (negsuc n) ns locales h t = absurd (cc)

none_more : (all ns : List ℤ) (n locales : ℕ) → IsCounted all (pos (suc n) ∷ ns) locales → nat_le (locales * suc n) 256 ≡ false → is_grid all ≡ false
none_more all ns n locales h t = by (are_positive ns) refl
  where
    by : (b : Bool) → are_positive ns ≡ b → is_grid all ≡ false
    by false e =
        let f : are_positive all ≡ false = sym h.positive ∙ positive_next n ns ∙ e in rw f refl
    by true e =
        let f : are_positive all ≡ true = sym h.positive ∙ positive_next n ns ∙ e in
        let s : 1 ≤ size_of_grid ns = positive_size ns e in
        let g : 256 < locales * suc n = grind arith in
        let m : (locales * suc n) * 1 ≤ (locales * suc n) * size_of_grid ns = mul-le-mul_left (locales * suc n) s in
        let k : 256 < size_of_grid all = omega (arith, h.product) in
        rw f (grind arith)

pub not_counted : (all : List ℤ) (n : ℤ) (ns : List ℤ) (locales : ℕ) → IsCounted all (n ∷ ns) locales → fits locales n ≡ false → is_grid all ≡ false
not_counted all (pos zero) ns locales h t = let f : are_positive all ≡ false = sym h.positive in rw f refl
not_counted all (pos (suc n)) ns locales h t = none_more all ns n locales h (sym (fits_next locales n) ∙ t)
not_counted all (negsuc n) ns locales h t = let f : are_positive all ≡ false = sym h.positive in rw f refl

-- what a choice says of its result
pub some_if : (b : Bool) (m x : ℕ) → Some m ≡ (if b then Some x else None) → (b ≡ true) × (m ≡ x)
some_if true m x e = (refl, cc)
some_if false m x e = absurd (cc)

pub none_if : (b : Bool) (x : ℕ) → None ≡ (if b then Some x else None) → b ≡ false
none_if true x e = absurd (cc)
none_if false x e = refl
