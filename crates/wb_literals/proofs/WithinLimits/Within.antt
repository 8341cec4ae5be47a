-- Bounds and strides within the limits pass their test.
use Rattle.std.proofs.Common.{rules, ◌≡◌, true, false, ℤ, ℕ, pos, negsuc, ◌≤◌, ◌≤ℤ◌, int_le, int_eq, nat_le, length, Option, refl}
use Rattle.wb_range.specs.Sequence.{sequence, IsWithinLimits}
use Rattle.wb_literals.specs.Limits.Literals.{is_range}

above : (a b : ℤ) → a ≤ℤ b → int_le a b ≡ true
above a b h = search rules

few : (n m : ℕ) → n ≤ m → nat_le n m ≡ true
few n m h = search rules

other : (i j : ℤ) → (i ≡ j → ⊥) → int_eq i j ≡ false
other i j h = search rules

pub within : (low high stride : ℤ) (align : Option ℤ) → (stride ≡ pos 0 → ⊥) → IsWithinLimits low high stride align → is_range (low, high) stride align ≡ true
within low high stride align nonzero h = rw (
  other stride (pos 0) nonzero,
  above (negsuc 999999999999999999) low h.low_bound.low,
  above low (pos 1000000000000000000) h.low_bound.high,
  above (negsuc 999999999999999999) high h.high_bound.low,
  above high (pos 1000000000000000000) h.high_bound.high,
  few (length (sequence low high stride align)) 65536 h.count,
) refl
