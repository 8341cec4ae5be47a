-- Words of 64 bits: one bit more or less, the bits behind a place, and the highest one.
use Rattle.std.proofs.Common.{◌≡◌, ◌≢◌, ℕ, ◌+◌, ◌-◌, ◌/◌, ◌%◌, ◌^◌, ◌<◌, ◌≤◌, suc, ◌==◌, Bool, true, false, true≢false, if◌then◌else◌, Some, sym, ap, ◌∙◌, arith, inl, inr}
use Rattle.std.specs.Int.{bit_at}
use Rattle.std.proofs.lemmas.Bool.{cases_eq, cases_lt}
use Rattle.std.proofs.lemmas.Nat.{shr-shr, le-div, div_below, pow_pos}
use Rattle.std.proofs.lemmas.Nat.Bits.{bit_at-zero, bit_at_above}
use Rattle.wb_footprints.specs.Numbers.{in_word}
use Rattle.wb_footprints.specs.Relation.{IsLeastAfter}
use Rattle.wb_footprints.proofs.Added.{at_self, at_other}

pub at_same : (a b : ℕ) → a ≡ b → (a == b) ≡ true
at_same a b e = ap (λ c. a == c) (sym e) ∙ at_self a

-- ---- bits

pub is_set : (n i : ℕ) → bit_at n i ≡ 1 → in_word n i ≡ true
is_set n i e = ap (λ b. b == 1) e

pub is_clear : (n i : ℕ) → bit_at n i ≡ 0 → in_word n i ≡ false
is_clear n i e = ap (λ b. b == 1) e

pub none_set : (i : ℕ) → in_word 0 i ≡ false
none_set i = is_clear 0 i (bit_at-zero i)

pub one_bit : (n m at i : ℕ) (b : Bool) → in_word m at ≡ b → (i ≢ at → bit_at m i ≡ bit_at n i) → in_word m i ≡ (if at == i then b else in_word n i)
one_bit n m at i b there others = elim (cases_eq at i) [
  | inl same ↦ ap (in_word m) (sym same) ∙ there ∙ ap (λ c. if c then b else in_word n i) (sym (at_same at i same))
  | inr apart ↦ ap (λ x. x == 1) (others (λ e. apart (sym e))) ∙ ap (λ c. if c then b else in_word n i) (sym (at_other at i apart))
]

-- the bits behind a place
pub bits_behind : (n at i : ℕ) → in_word (n / 2 ^ at / 2 ^ 1) i ≡ in_word n (at + 1 + i)
bits_behind n at i = ap (λ m. m % 2 == 1) (ap (λ m. m / 2 ^ i) (shr-shr n at 1) ∙ shr-shr n (at + 1) i)

pub behind_none : (n at i : ℕ) → n / 2 ^ at / 2 ^ 1 ≡ 0 → at < i → in_word n i ≡ false
behind_none n at i none up =
    let e : at + 1 + (i - (at + 1)) ≡ i = omega arith in
    ap (in_word n) (sym e) ∙ sym (bits_behind n at (i - (at + 1))) ∙ ap (λ m. in_word m (i - (at + 1))) none ∙ none_set (i - (at + 1))

pub behind_least : (n at j : ℕ) → in_word (n / 2 ^ at / 2 ^ 1) j ≡ true → ((i : ℕ) → i < j → in_word (n / 2 ^ at / 2 ^ 1) i ≡ false) →
    IsLeastAfter (in_word n) at (Some (at + 1 + j))
behind_least n at j there none = (
  omega arith,
  sym (bits_behind n at j) ∙ there,
  λ i up down.
      let e : at + 1 + (i - (at + 1)) ≡ i = omega arith in
      ap (in_word n) (sym e) ∙ sym (bits_behind n at (i - (at + 1))) ∙ none (i - (at + 1)) (omega arith),
)

pub set_below : (n i : ℕ) → n < 2 ^ 64 → in_word n i ≡ true → i < 64
set_below n i fits e = elim (cases_lt i 64) [
  | inl below ↦ below
  | inr high ↦ absurd (true≢false (sym e ∙ is_clear n i (bit_at_above n 64 i fits high)))
]

-- the highest bit of a number from a power of two up to the next
pub top_set : (n j : ℕ) → 2 ^ j ≤ n → n < 2 ^ suc j → in_word n j ≡ true
top_set n j low high =
    let one : 1 ≤ n / 2 ^ j = le-div 1 n (2 ^ j) (pow_pos j) (omega arith) in
    let two : n / 2 ^ j < 2 = div_below n (2 ^ j) 2 (pow_pos j) (omega arith) in
    is_set n j (omega arith)

pub top_highest : (n j i : ℕ) → n < 2 ^ suc j → j < i → in_word n i ≡ false
top_highest n j i high up = is_clear n i (bit_at_above n (suc j) i high (omega arith))
