-- a range is a list of numbers at equal distances, as its fields keep them
use Rattle.std.proofs.Common.{◌≡◌, ◌≢◌, ℕ, zero, suc, ◌+◌, ◌-◌, ◌*◌, ◌/◌, ◌%◌, ◌<◌, ◌≤◌, ℤ, pos, ◌+ℤ◌, ◌-ℤ◌, ◌*ℤ◌, List, None, unsigned_abs, IsTrue, refl, sym}
use Rattle.std.proofs.Common.{subst, ◌∙◌, arith}
use Rattle.std.proofs.lemmas.Int.{ints}
use Rattle.std.proofs.Math.Nat.{mul-mod_left}
use Rattle.wb_range.specs.Canonical.{IsRange}
use Rattle.wb_range.specs.Fields.{IsCanonical}
use Rattle.wb_range.specs.Sequence.{start, direction, or_zero, is_congruent, sequence}
use Rattle.wb_range.specs.Steps.{steps}
use Rattle.wb_range.specs.declared.range.Range.TheInside.{Inside}
use Rattle.wb_range.proofs.Bounds.{AreBounds, are_bounds, canonical_one, canonical_many, length-sequence}
use Rattle.wb_range.proofs.Offset.{no_offset}
use Rattle.wb_range.proofs.Places.{above_zero}
use Rattle.wb_range.proofs.Walk.{sequence-is}

-- the fields that keep a range
pub record IsKept (xs : List ℤ) : Type 0 where
  pub fields : Inside
  pub canonical : IsCanonical fields
  pub is : steps fields.first fields.stride fields.count ≡ xs

pub canonical_none : IsCanonical (record { first = pos 1; count = 0; stride = pos 1 })
canonical_none =
    record {
      few = omega arith;
      nonzero = λ e. omega (arith, ints);
      first_low = omega (arith, ints);
      first_high = omega (arith, ints);
      last_low = omega (arith, ints);
      last_high = omega (arith, ints);
      empty = λ e. refl;
      short = λ h. refl;
    }

by_count : (x s : ℤ) (c : ℕ) (xs : List ℤ) → s ≢ pos 0 → c ≤ 65536 → (c ≢ 0 → AreBounds x s c) → steps x s c ≡ xs → IsKept xs
by_count x s zero xs nz few b e = record { fields = record { first = pos 1; count = 0; stride = pos 1 }; canonical = canonical_none; is = e }
by_count x s (suc zero) xs nz few b e =
    let k : AreBounds x s 1 = b (λ z. omega arith) in
    record { fields = record { first = x; count = 1; stride = pos 1 }; canonical = canonical_one x k.head; is = e }
by_count x s (suc (suc c)) xs nz few b e =
    let k : AreBounds x s (suc (suc c)) = b (λ z. omega arith) in
    record {
      fields = record { first = x; count = suc (suc c); stride = s };
      canonical =
          canonical_many x s (suc (suc c)) k.head k.last nz few (λ z. omega arith) (λ z. omega arith);
      is = e;
    }

-- so many steps of m lead past n
pub record IsPast (n m c : ℕ) : Type 0 where
  pub reached : n ≤ 0 + c * m
  pub not_passed : 0 + c * m < n + m

past : (n m : ℕ) → 0 < m → (c : ℕ) × IsPast n m c
past n m h = ((n + (m - 1)) / m, record { reached = omega arith; not_passed = omega arith })

-- a range by its fields
pub kept : (xs : List ℤ) → IsRange xs → IsKept xs
kept xs h =
    let st = start h.low h.high h.stride in
    let n = or_zero (h.high -ℤ h.low +ℤ pos 1) in
    let m = unsigned_abs h.stride in
    let p : 0 < m = above_zero h.stride h.nonzero in
    let c = past n m p in
    let d : 0 ≡ unsigned_abs (st -ℤ st) = omega (arith, ints) in
    let z : 0 * m ≡ 0 = omega arith in
    let r : 0 % m ≡ 0 = subst (λ (k : ℕ). k % m ≡ 0) z (mul-mod_left 0 m) in
    let t : IsTrue (is_congruent h.stride st (st +ℤ pos 0 *ℤ direction h.stride)) = no_offset st h.stride st 0 m refl d r in
    let e : sequence h.low h.high h.stride None ≡ steps (st +ℤ pos 0 *ℤ direction h.stride) h.stride c.0 =
    sequence-is h.low h.high h.stride None st st n 0 c.0 m h.nonzero refl refl refl refl p t c.1.reached c.1.not_passed in
    let few : c.0 ≤ 65536 = omega (arith, length-sequence h.low h.high h.stride (st +ℤ pos 0 *ℤ direction h.stride) None c.0 e, h.limits.count) in
    by_count (st +ℤ pos 0 *ℤ direction h.stride) h.stride c.0 xs h.nonzero few
    (λ nz. are_bounds h.low h.high h.stride st 0 c.0 n m h.limits.low_bound h.limits.high_bound refl refl refl nz c.1.not_passed) (sym e ∙ sym h.is)
