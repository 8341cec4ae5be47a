-- Every range of a workbook is known by its least index, its greatest index and its stride.
use Rattle.std.proofs.Common.{◌≡◌, ◌≢◌, ℕ, zero, suc, ◌+◌, ◌-◌, ◌*◌, ◌<◌, ◌≤◌, ℤ, pos, negsuc, ◌+ℤ◌, ◌-ℤ◌, ◌*ℤ◌, List, [], ◌∷◌, Some, None, inl, inr}
use Rattle.std.proofs.Common.{unsigned_abs, refl, sym, ap, ◌∙◌, subst, arith}
use Rattle.std.proofs.lemmas.Bool.{cases_lt}
use Rattle.std.proofs.lemmas.Int.{ints}
use Rattle.std.proofs.Math.Nat.{zero-mod}
use Rattle.std.specs.List.{Contains}
use Rattle.wb_range.specs.Canonical.{bounds_of, IsRange}
use Rattle.wb_range.specs.Sequence.{start, direction, or_zero, sequence, IsBound, IsWithinLimits}
use Rattle.wb_range.specs.Steps.{steps, stride_of}
use Rattle.wb_range.proofs.Bounds.{are_bounds, canonical_one, canonical_many, length-sequence}
use Rattle.wb_range.proofs.Closed.{Contains-steps}
use Rattle.wb_range.proofs.Offset.{no_offset}
use Rattle.wb_range.proofs.Places.{above_zero}
use Rattle.wb_range.proofs.Spelling.{AreBoundsOf, bounds_up, bounds_down}
use Rattle.wb_range.proofs.Steps.{Between-steps, stride_of-steps}
use Rattle.wb_range.proofs.Walk.{sequence-is}
use Rattle.wb_literals.specs.Integer.{IsWithin}
use Rattle.wb_literals.specs.RangeText.{IsStride}
use Rattle.wb_text.proofs.ReadRanges.{IsSpelled}

-- ---- numbers of 64 bits

bound_within : (z : ℤ) → IsBound z → IsWithin z
bound_within (pos n) b = omega (arith, ints, b.high)
bound_within (negsuc n) b = omega (arith, ints, b.low)

stride_within : (a s : ℤ) → IsBound a → IsBound (a +ℤ pos 1 *ℤ s) → IsWithin s
stride_within a (pos n) b l = omega (arith, ints, b.low, l.high)
stride_within a (negsuc n) b l = omega (arith, ints, b.high, l.low)

-- ---- from the bounds to the parts

-- the bounds and the stride give the range back, within the limits, and the stride isn't 0
pub record IsBounded (xs : List ℤ) : Type 0 where
  pub spelled : IsSpelled xs
  pub nonzero : stride_of xs ≢ pos 0
  pub limits : IsWithinLimits (bounds_of xs).0 (bounds_of xs).1 (stride_of xs) None

bounded_by : (low high : ℤ) (xs : List ℤ) → AreBoundsOf xs low high → IsStride (Some (stride_of xs)) → IsBounded xs
bounded_by low high xs b s =
    record {
      spelled = record {
        spelled = ap (λ (p : ℤ × ℤ). sequence p.0 p.1 (stride_of xs) None) (sym b.value) ∙ b.spelled;
        low = subst IsWithin (ap (λ (p : ℤ × ℤ). p.0) b.value) (bound_within low b.within.low_bound);
        high = subst IsWithin (ap (λ (p : ℤ × ℤ). p.1) b.value) (bound_within high b.within.high_bound);
        stride = s.0;
      };
      nonzero = s.1;
      limits = subst (λ (p : ℤ × ℤ). IsWithinLimits p.0 p.1 (stride_of xs) None) b.value b.within;
    }

-- ---- a sequence as numbers at equal distances

-- the least number of steps of length m that goes past n
least_count : (n m : ℕ) → 0 < m → (c : ℕ) × (n ≤ c * m) × (c * m < n + m)
least_count zero m h = (0, omega arith, omega (arith, h))
least_count (suc n) m h =
    let before = least_count n m h in
    let c = before.0 in let low = before.1 in let high = before.2 in
    elim (cases_lt n (c * m)) [
      | inl l ↦ (c, omega (arith, l), omega (arith, high))
      | inr g ↦ (suc c, omega (arith, g, h, low), omega (arith, g))
    ]

-- so many numbers, from the first index on; if there is one, the first and the last are within the bounds
record AreSteps (xs : List ℤ) : Type 0 where
  first : ℤ
  stride : ℤ
  count : ℕ
  is : steps first stride count ≡ xs
  nonzero : stride ≢ pos 0
  few : count ≤ 65536
  head : count ≢ 0 → IsBound first
  last : count ≢ 0 → IsBound (first +ℤ pos (count - 1) *ℤ stride)

steps_of : (xs : List ℤ) → IsRange xs → AreSteps xs
steps_of xs r =
    let s = r.stride in
    let st = start r.low r.high s in
    let m = unsigned_abs s in
    let n = or_zero (r.high -ℤ r.low +ℤ pos 1) in
    let some = above_zero s r.nonzero in
    let count = least_count n m some in
    let c = count.0 in let low = count.1 in let high = count.2 in
    let zero_off : 0 ≡ unsigned_abs (st -ℤ st) = omega (arith, ints) in
    let is = sequence-is r.low r.high s None st st n 0 c m r.nonzero refl refl refl refl some (no_offset st s st 0 m refl zero_off (zero-mod m))
    (omega (arith, low)) (omega (arith, high)) in
    let bounds = λ (nz : c ≢ 0). are_bounds r.low r.high s st 0 c n m r.limits.low_bound r.limits.high_bound refl refl refl nz (omega (arith, high)) in
    record {
      first = st +ℤ pos 0 *ℤ direction s;
      stride = s;
      count = c;
      is = sym is ∙ sym r.is;
      nonzero = r.nonzero;
      few = subst (λ (k : ℕ). k ≤ 65536) (length-sequence r.low r.high s _ None c is) r.limits.count;
      head = λ nz. (bounds nz).head;
      last = λ nz. (bounds nz).last;
    }

-- ---- ranges

none_bounded : (xs : List ℤ) → [] ≡ xs → IsBounded xs
none_bounded xs e = subst IsBounded e (record {
  spelled = record { spelled = refl; low = omega arith; high = omega arith; stride = omega arith };
  nonzero = λ z. omega (arith, ints, z);
  limits = record {
    low_bound = record { low = omega (arith, ints); high = omega (arith, ints) };
    high_bound = record { low = omega (arith, ints); high = omega (arith, ints) };
    count = omega arith;
  };
})

one_bounded : (a : ℤ) (xs : List ℤ) → IsBound a → (a ∷ []) ≡ xs → IsBounded xs
one_bounded a xs b e =
    let one : IsStride (Some (pos 1)) = (omega arith, λ z. omega (arith, ints, z)) in
    bounded_by a _ xs (bounds_up (record { first = a; count = 1; stride = pos 1 }) xs _ (canonical_one a b) e (omega (arith, ints)) (λ z. omega arith) refl)
    (subst (λ ys. IsStride (Some (stride_of ys))) e one)

many_stride : (a s : ℤ) (n : ℕ) (xs : List ℤ) → s ≢ pos 0 → suc (suc n) ≤ 65536 → IsBound a → IsBound (a +ℤ pos (suc (suc n) - 1) *ℤ s) →
    steps a s (suc (suc n)) ≡ xs → IsStride (Some (stride_of xs))
many_stride a s n xs nz few b l e =
    let next = Between-steps a s _ _ (suc (suc n)) 1 (omega arith) b.low b.high l.low l.high in
    subst (λ z. IsStride (Some z)) (stride_of-steps a s (suc (suc n)) (λ h. absurd (omega (arith, h))) ∙ ap stride_of e)
    (stride_within a s b (record { low = next.0; high = next.1 }), nz)

many_bounded : (a s : ℤ) (n : ℕ) (xs : List ℤ) → s ≢ pos 0 → suc (suc n) ≤ 65536 → IsBound a → IsBound (a +ℤ pos (suc (suc n) - 1) *ℤ s) →
    steps a s (suc (suc n)) ≡ xs → IsBounded xs
many_bounded a (pos k) n xs nz few b l e =
    let kept = canonical_many a (pos k) (suc (suc n)) b l nz few (λ z. omega (arith, z)) (λ z. omega (arith, z)) in
    bounded_by a _ xs (bounds_up (record { first = a; count = suc (suc n); stride = pos k }) xs _ kept e (omega (arith, ints)) (λ z. omega (arith, z)) refl)
    (many_stride a (pos k) n xs nz few b l e)
many_bounded a (negsuc k) n xs nz few b l e =
    let kept = canonical_many a (negsuc k) (suc (suc n)) b l nz few (λ z. omega (arith, z)) (λ z. omega (arith, z)) in
    bounded_by _ a xs (bounds_down (record { first = a; count = suc (suc n); stride = negsuc k }) xs _ kept e (omega (arith, ints)) (λ z. omega (arith, z))
    refl) (many_stride a (negsuc k) n xs nz few b l e)

by_count : (a s : ℤ) (c : ℕ) (xs : List ℤ) → s ≢ pos 0 → c ≤ 65536 → (c ≢ 0 → IsBound a) → (c ≢ 0 → IsBound (a +ℤ pos (c - 1) *ℤ s)) → steps a s c ≡ xs →
    IsBounded xs
by_count a s zero xs nz few b l e = none_bounded xs e
by_count a s (suc zero) xs nz few b l e = one_bounded a xs (b (λ z. omega (arith, z))) e
by_count a s (suc (suc n)) xs nz few b l e = many_bounded a s n xs nz few (b (λ z. omega (arith, z))) (l (λ z. omega (arith, z))) e

pub range_bounded : (xs : List ℤ) → IsRange xs → IsBounded xs
range_bounded xs r =
    let parts = steps_of xs r in
    by_count parts.first parts.stride parts.count xs parts.nonzero parts.few parts.head parts.last parts.is

pub range_spelled : (xs : List ℤ) → IsRange xs → IsSpelled xs
range_spelled xs r = (range_bounded xs r).spelled

-- ---- the indices of a range

pub member_within : (xs : List ℤ) (x : ℤ) → IsRange xs → Contains xs x → IsWithin x
member_within xs x r c =
    let parts = steps_of xs r in
    let at = (Contains-steps parts.first parts.stride x parts.count).0 (subst (λ (ys : List ℤ). Contains ys x) (sym parts.is) c) in
    let below : at.0 < parts.count = at.1 in
    let some : parts.count ≢ 0 = λ z. omega (arith, below, z) in
    let b = parts.head some in let l = parts.last some in
    let between = Between-steps parts.first parts.stride _ _ parts.count at.0 below b.low b.high l.low l.high in
    subst IsWithin (sym at.2) (bound_within _ (record { low = between.0; high = between.1 }))
