-- What the literal of a range stands for, within the limits, is a range.
use Rattle.std.proofs.Common.{◌≡◌, ◌≢◌, ◌⊎◌, inl, inr, ℕ, zero, suc, ◌+◌, ◌-◌, ◌*◌, ◌%◌, ◌<◌, ◌≤◌, ℤ, pos, negsuc, ◌+ℤ◌, ◌-ℤ◌, ◌*ℤ◌, ◌<ℤ◌, List, [], Option}
use Rattle.std.proofs.Common.{unsigned_abs, IsTrue, refl, sym, subst, arith}
use Rattle.std.proofs.lemmas.Bool.{cases_lt}
use Rattle.std.proofs.lemmas.Int.{ints}
use Rattle.std.proofs.Math.Nat.{mod-lt}
use Rattle.std.specs.Option.{unwrap_or}
use Rattle.wb_range.specs.Canonical.{IsRange}
use Rattle.wb_range.specs.Sequence.{start, direction, or_zero, is_congruent, sequence, IsBound, IsWithinLimits}
use Rattle.wb_range.specs.Steps.{steps}
use Rattle.wb_range.proofs.Bounds.{are_bounds, canonical_one, canonical_many, length-sequence}
use Rattle.wb_range.proofs.Offset.{no_offset, offset_ahead, offset_behind}
use Rattle.wb_range.proofs.Places.{IsAhead, upward, downward, above_zero}
use Rattle.wb_range.proofs.Spelling.{is_range}
use Rattle.wb_range.proofs.Walk.{sequence-is}

-- ---- where the first congruent number lies

-- how far it lies, less than a stride
abbrev Offset : (a s al : ℤ) → Type 0
Offset a s al = (off : ℕ) × (off < unsigned_abs s) × IsTrue (is_congruent s al (a +ℤ pos off *ℤ direction s))

either_way : (a s al : ℤ) → s ≢ pos 0 → IsAhead a s al ⊎ IsAhead al s a
either_way a s al nz = elim (al -ℤ a) as (λ z. al -ℤ a ≡ z → IsAhead a s al ⊎ IsAhead al s a) [
  | pos n ↦ λ e. elim s as (λ s. s ≢ pos 0 → IsAhead a s al ⊎ IsAhead al s a) [
    | pos k ↦ λ nz. inl (upward (positive k nz) (omega (arith, ints, e)))
    | negsuc k ↦ λ nz. inr (downward (omega (arith, ints)) (omega (arith, ints, e)))
  ] nz
  | negsuc n ↦ λ e. elim s as (λ s. s ≢ pos 0 → IsAhead a s al ⊎ IsAhead al s a) [
    | pos k ↦ λ nz. inr (upward (positive k nz) (omega (arith, ints, e)))
    | negsuc k ↦ λ nz. inl (downward (omega (arith, ints)) (omega (arith, ints, e)))
  ] nz
] refl
  where
    positive : (k : ℕ) → pos k ≢ pos 0 → pos 0 <ℤ pos k
    positive zero nz = absurd (nz refl)
    positive (suc k) nz = omega (arith, ints)

offset_by : (a s al : ℤ) (d m r : ℕ) → m ≡ unsigned_abs s → d ≡ unsigned_abs (al -ℤ a) → r ≡ d % m → r < m → IsAhead a s al ⊎ IsAhead al s a → Offset a s al
offset_by a s al d m zero em ed er low way = (0, subst (λ n. 0 < n) em low, no_offset a s al d m em ed (sym er))
offset_by a s al d m (suc r) em ed er low (inl ahead) =
    (d % m, subst (λ n. d % m < n) em (subst (λ n. n < m) er low), offset_ahead a s al d m em ed (subst (λ n. n < m) er low) ahead)
offset_by a s al d m (suc r) em ed er low (inr behind) =
    (m - d % m, omega (arith, em, er, low), offset_behind a s al d m em ed (subst (λ n. n < m) er low) behind)

offset_of : (a s al : ℤ) → s ≢ pos 0 → Offset a s al
offset_of a s al nz =
    let some = above_zero s nz in
    offset_by a s al (unsigned_abs (al -ℤ a)) (unsigned_abs s) (unsigned_abs (al -ℤ a) % unsigned_abs s) refl refl refl
    (mod-lt (unsigned_abs (al -ℤ a)) some) (either_way a s al nz)

-- ---- how many there are

least_count : (n m : ℕ) → 0 < m → (c : ℕ) × (n ≤ c * m) × (c * m < n + m)
least_count zero m h = (0, omega arith, omega (arith, h))
least_count (suc n) m h =
    let (c, low, high) = least_count n m h in
    elim (cases_lt n (c * m)) [
      | inl l ↦ (c, omega (arith, l), omega (arith, high))
      | inr g ↦ (suc c, omega (arith, g, h, low), omega (arith, g))
    ]

count_from : (n off m : ℕ) → off < m → (c : ℕ) × (n ≤ off + c * m) × (off + c * m < n + m)
count_from n off m h = elim (cases_lt n off) [
  | inl l ↦ (0, omega (arith, l), omega (arith, h))
  | inr g ↦ let (c, low, high) = least_count (n - off) m (omega (arith, h)) in (c, omega (arith, g, low), omega (arith, g, high))
]

-- ---- numbers at equal distances, the first and the last within the bounds

none_is : (xs : List ℤ) → [] ≡ xs → IsRange xs
none_is xs e = is_range (record { first = pos 1; count = 0; stride = pos 1 }) xs (record {
  few = omega arith;
  nonzero = λ z. omega (arith, ints, z);
  first_low = omega (arith, ints);
  first_high = omega (arith, ints);
  last_low = omega (arith, ints);
  last_high = omega (arith, ints);
  empty = λ z. refl;
  short = λ z. refl;
}) e

steps_are : (a s : ℤ) (c : ℕ) (xs : List ℤ) → s ≢ pos 0 → c ≤ 65536 → (c ≢ 0 → IsBound a)
    → (c ≢ 0 → IsBound (a +ℤ pos (c - 1) *ℤ s)) → steps a s c ≡ xs → IsRange xs
steps_are a s zero xs nz few head last e = none_is xs e
steps_are a s (suc zero) xs nz few head last e =
    is_range (record { first = a; count = 1; stride = pos 1 }) xs (canonical_one a (head (λ z. omega (arith, z)))) e
steps_are a s (suc (suc n)) xs nz few head last e =
    is_range (record { first = a; count = suc (suc n); stride = s }) xs
    (canonical_many a s (suc (suc n)) (head (λ z. omega (arith, z))) (last (λ z. omega (arith, z))) nz few (λ z. omega (arith, z)) (λ z. omega (arith, z))) e

-- ---- the sequence of a range

pub sequence_is_range : (low high stride : ℤ) (align : Option ℤ) → stride ≢ pos 0 → IsWithinLimits low high stride align
    → IsRange (sequence low high stride align)
sequence_is_range low high stride align nz limits =
    let st = start low high stride in
    let al = unwrap_or align st in
    let n = or_zero (high -ℤ low +ℤ pos 1) in
    let m = unsigned_abs stride in
    let off = offset_of st stride al nz in
    let count = count_from n off.0 m off.1 in
    let c = count.0 in
    let is = sequence-is low high stride align st al n off.0 c m nz refl refl refl refl off.1 off.2 count.1 count.2 in
    let bounds = λ (some : c ≢ 0). are_bounds low high stride st off.0 c n m limits.low_bound limits.high_bound refl refl refl some count.2 in
    steps_are (st +ℤ pos off.0 *ℤ direction stride) stride c (sequence low high stride align) nz
    (subst (λ k. k ≤ 65536) (length-sequence low high stride _ align c is) limits.count)
    (λ some. (bounds some).head) (λ some. (bounds some).last) (sym is)
