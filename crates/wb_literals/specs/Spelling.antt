-- The spellings of integers, apart from how they are read.
use Rattle.std.specs.Prelude.{◌≡◌, ◌≢◌, ℕ, ◌+◌, ◌-◌, ◌*◌, ◌^◌, ◌<◌, ◌≤◌, ℤ, pos, List, [], ◌∷◌, true, MatchBool, nat_eq}
use Rattle.std.proofs.Common.{neg_ℤ}
use Rattle.wb_literals.specs.Integer.{is_digit}

abbrev pub AreDigits : List ℕ → Type 0
AreDigits [] = Unit {0}
AreDigits (b ∷ bytes) = (is_digit b ≡ true) × AreDigits bytes

abbrev pub value_from : ℕ → List ℕ → ℕ
value_from n [] = n
value_from n (b ∷ bytes) = value_from (10 * n + (b - 48)) bytes

-- one or more digits, whose value is n
abbrev pub IsNatural : List ℕ → ℕ → Type 0
IsNatural text n = AreDigits text × (text ≢ []) × (n ≡ value_from 0 text)

-- an optional minus directly before the digits, a value in i64
abbrev pub IsInteger : List ℕ → ℤ → Type 0
IsInteger [] z = ⊥
IsInteger (b ∷ bytes) z = MatchBool (nat_eq b 45) ((n : ℕ) × IsNatural bytes n × (n ≤ 2 ^ 63) × (z ≡ neg_ℤ (pos n)))
    ((n : ℕ) × IsNatural (b ∷ bytes) n × (n < 2 ^ 63) × (z ≡ pos n))
