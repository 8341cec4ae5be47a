-- the tests of shifts decide what they are named after
use Rattle.std.proofs.Common.{◌≡◌, ℕ, ◌*◌, ◌≤◌, nat_le, Bool, ◌&&◌, Decides, ℤ, pos, negsuc, ◌+ℤ◌, ◌-ℤ◌, ◌*ℤ◌, ◌≤ℤ◌, ◌<ℤ◌, int_lt, int_le, List, [], ◌∷◌, None}
use Rattle.std.proofs.Common.{length, IsTrue, unsigned_abs, refl, ap, ◌∙◌, arith}
use Rattle.std.specs.Ordering.{int_eq}
use Rattle.std.proofs.lemmas.Bool.Decides.{Decides-int_eq, Decides-like, Decides-and, Decides-or, Decides-by_and, nat_tests}
use Rattle.std.proofs.lemmas.Int.{ints}
use Rattle.std.proofs.lemmas.List.Elements.{All-from_get_or, All-get_or}
use Rattle.wb_range.specs.Sequence.{direction, is_congruent, sequence, IsBound, IsWithinLimits}
use Rattle.wb_range.specs.Steps.{steps, stride_of}
use Rattle.wb_range.proofs.Bounds.{length-sequence}
use Rattle.wb_range.proofs.Offset.{no_offset}
use Rattle.wb_range.proofs.Walk.{sequence-is}
use Rattle.wb_rect.specs.Offsets.{HasUnitStrides, AreWithin, IsWithin, EachWithin, CanShift, shifted, low_by, each_shifted}
use Rattle.wb_rect.specs.Product.{product}
use Rattle.wb_rect.specs.ShiftTests.{has_unit_strides, is_bound, count_between, are_within, is_within, shifted_count, are_each_within, shifted_size, can_shift}
use Rattle.wb_rect.proofs.Product.{length-rows}

-- ---- strides

pub Decides-has_unit_strides : (rs : List (List ℤ)) → Decides (has_unit_strides rs) (HasUnitStrides rs)
Decides-has_unit_strides rs =
    let d = Decides-by_and (λ (xs : List ℤ). int_eq (stride_of xs) (pos 1)) (λ (xs : List ℤ). stride_of xs ≡ pos 1) has_unit_strides
    (λ xs. Decides-int_eq (stride_of xs) (pos 1)) refl (λ _ _. refl) rs in (
      λ t. let h = d.0 t in λ p l. All-get_or (λ (xs : List ℤ). stride_of xs ≡ pos 1) rs p [] l h,
      λ h. d.1 (All-from_get_or (λ (xs : List ℤ). stride_of xs ≡ pos 1) rs [] h),
    )

-- ---- bounds

Decides-int_le : (a b : ℤ) → Decides (int_le a b) (a ≤ℤ b)
Decides-int_le a b = (λ t. grind (arith, ints), λ h. grind (arith, ints))

Decides-int_lt : (a b : ℤ) → Decides (int_lt a b) (a <ℤ b)
Decides-int_lt a b = (λ t. grind (arith, ints), λ h. grind (arith, ints))

Decides-nat_le : (a b : ℕ) → Decides (nat_le a b) (a ≤ b)
Decides-nat_le a b = (λ t. grind (arith, nat_tests), λ h. grind (arith, nat_tests))

Decides-is_bound : (i : ℤ) → Decides (is_bound i) (IsBound i)
Decides-is_bound i =
    Decides-like (is_bound i) (λ h. record { low = h.0; high = h.1 }) (λ h. (h.low, h.high))
    (Decides-and (int_le (negsuc 999999999999999999) i) (int_le i (pos 1000000000000000000)) (Decides-int_le _ i) (Decides-int_le i _))

-- ---- counts

length-between : (low high : ℤ) → length (sequence low high (pos 1) None) ≡ count_between low high
length-between low high =
    let n = count_between low high in
    let d : 0 ≡ unsigned_abs (low -ℤ low) = omega (arith, ints) in
    let t : IsTrue (is_congruent (pos 1) low (low +ℤ pos 0 *ℤ direction (pos 1))) = no_offset low (pos 1) low 0 1 refl d refl in
    let e : sequence low high (pos 1) None ≡ steps (low +ℤ pos 0 *ℤ direction (pos 1)) (pos 1) n =
    sequence-is low high (pos 1) None low low n 0 n 1 (λ z. omega (arith, ints)) refl refl refl refl (omega arith) t (omega arith) (omega arith) in
    length-sequence low high (pos 1) (low +ℤ pos 0 *ℤ direction (pos 1)) None n e

pub length-shifted : (low high : ℤ) (xs : List ℤ) → length (shifted low high xs) ≡ shifted_count low high xs
length-shifted low high [] = refl
length-shifted low high (x ∷ xs) = length-between (x +ℤ low) (x +ℤ pos (length xs) +ℤ high)

pub length-product_shifted : (outward : Bool) (os : List ℤ) (rs : List (List ℤ)) → length (product (each_shifted outward os rs)) ≡ shifted_size outward os rs
length-product_shifted outward [] rs = refl
length-product_shifted outward (o ∷ os) [] = refl
length-product_shifted outward (o ∷ os) (xs ∷ rs) =
    length-rows (shifted (low_by outward o) o xs) (product (each_shifted outward os rs))
    ∙ ap (λ (n : ℕ). n * length (product (each_shifted outward os rs))) (length-shifted (low_by outward o) o xs)
    ∙ ap (λ (n : ℕ). shifted_count (low_by outward o) o xs * n) (length-product_shifted outward os rs)

-- ---- shifts

Decides-limits : (low high : ℤ) → Decides (is_bound low && is_bound high && nat_le (count_between low high) 65536) (IsWithinLimits low high (pos 1) None)
Decides-limits low high =
    let e : length (sequence low high (pos 1) None) ≡ count_between low high = length-between low high in
    Decides-like (is_bound low && is_bound high && nat_le (count_between low high) 65536)
    (λ (h : (IsBound low × IsBound high) × (count_between low high ≤ 65536)). record { low_bound = h.0.0; high_bound = h.0.1; count = omega (arith, e, h.1) })
    (λ h. ((h.low_bound, h.high_bound), omega (arith, e, h.count)))
    (Decides-and (is_bound low && is_bound high) (nat_le (count_between low high) 65536)
    (Decides-and (is_bound low) (is_bound high) (Decides-is_bound low) (Decides-is_bound high)) (Decides-nat_le (count_between low high) 65536))

Decides-are_within : (low high : ℤ) → Decides (are_within low high) (AreWithin low high)
Decides-are_within low high =
    Decides-or (int_lt high low) (is_bound low && is_bound high && nat_le (count_between low high) 65536) (Decides-int_lt high low) (Decides-limits low high)

Decides-is_within : (low high : ℤ) (xs : List ℤ) → Decides (is_within low high xs) (IsWithin low high xs)
Decides-is_within low high [] = (λ t. tt, λ h. refl)
Decides-is_within low high (x ∷ xs) = Decides-are_within (x +ℤ low) (x +ℤ pos (length xs) +ℤ high)

Decides-each : (outward : Bool) (os : List ℤ) (rs : List (List ℤ)) → Decides (are_each_within outward os rs) (EachWithin outward os rs)
Decides-each outward [] rs = (λ t. tt, λ h. refl)
Decides-each outward (o ∷ os) [] = (λ t. tt, λ h. refl)
Decides-each outward (o ∷ os) (xs ∷ rs) =
    Decides-and (is_within (low_by outward o) o xs) (are_each_within outward os rs) (Decides-is_within (low_by outward o) o xs) (Decides-each outward os rs)

pub Decides-can_shift : (outward : Bool) (os : List ℤ) (rs : List (List ℤ)) → Decides (can_shift outward os rs) (CanShift outward os rs)
Decides-can_shift outward os rs =
    let e : length (product (each_shifted outward os rs)) ≡ shifted_size outward os rs = length-product_shifted outward os rs in
    Decides-like (can_shift outward os rs)
    (λ (h : EachWithin outward os rs × (shifted_size outward os rs ≤ 65536)). record { ranges_within = h.0; size = omega (arith, e, h.1) })
    (λ h. (h.ranges_within, omega (arith, e, h.size)))
    (Decides-and (are_each_within outward os rs) (nat_le (shifted_size outward os rs) 65536) (Decides-each outward os rs)
    (Decides-nat_le (shifted_size outward os rs) 65536))
