-- What is spelled within a list of items holds of each of them; integers that are spelled are of 64 bits.
use Rattle.std.proofs.Common.{◌≡◌, ◌<◌, ◌≤◌, ◌^◌, ℕ, zero, suc, ℤ, pos, neg_ℤ, Bool, true, false, MatchBool, nat_eq, List, [], ◌∷◌, sym, subst, arith}
use Rattle.std.specs.List.{AllByRecursion}
use Rattle.wb_literals.specs.Grammar.{AreMore, AreListed}
use Rattle.wb_literals.specs.Integer.{IsWithin}
use Rattle.wb_literals.specs.Spelling.{IsNatural, IsInteger}

module _ {X : Type 0} (Item : List ℕ → X → Type 0) (P : X → Type 0) (one : (text : List ℕ) (x : X) → Item text x → P x) where
  more_listed : (text : List ℕ) (xs : List X) → AreMore Item text xs → AllByRecursion P xs
  more_listed text [] h = tt
  more_listed text (x ∷ xs) h = (one h.1 x h.4, more_listed h.2 xs h.5)

  pub each_listed : (text : List ℕ) (xs : List X) → AreListed Item text xs → AllByRecursion P xs
  each_listed text [] h = absurd h
  each_listed text (x ∷ xs) h = (one h.0 x h.2, more_listed h.1 xs h.3)

-- ---- integers

-- the negative of a number up to 2^63
pub lowest : (n : ℕ) → n ≤ 2 ^ 63 → IsWithin (neg_ℤ (pos n))
lowest zero h = omega arith
lowest (suc n) h = omega (arith, h)

integer_by : (t : Bool) (b : ℕ) (bytes : List ℕ) (z : ℤ)
    → MatchBool t ((n : ℕ) × IsNatural bytes n × (n ≤ 2 ^ 63) × (z ≡ neg_ℤ (pos n)))
    ((n : ℕ) × IsNatural (b ∷ bytes) n × (n < 2 ^ 63) × (z ≡ pos n)) → IsWithin z
integer_by true b bytes z h = subst IsWithin (sym h.3) (lowest h.0 h.2)
integer_by false b bytes z h = subst IsWithin (sym h.3) h.2

pub integer_within : (text : List ℕ) (z : ℤ) → IsInteger text z → IsWithin z
integer_within [] z h = absurd h
integer_within (b ∷ bytes) z h = integer_by (nat_eq b 45) b bytes z h
