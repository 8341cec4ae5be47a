-- Integers of 64 bits.
use Rattle.std.proofs.Common.{◌≡◌, Bool, true, false, ℤ, pos, negsuc, Ok, FitsSigned, refl, subst, arith}
use Rattle.std.proofs.lemmas.Int.{ints}
use Rattle.std.specs.Int.{w64}
use Rattle.wb_edit.specs.Numbers.{is_i64, kept_if, fits_integer}

pub is_i64-fits : (z : ℤ) → is_i64 z ≡ true → FitsSigned w64 z
is_i64-fits (pos n) e = grind (arith, ints)
is_i64-fits (negsuc n) e = grind (arith, ints)

kept_fits : (b : Bool) (z y : ℤ) → is_i64 z ≡ b → kept_if b z ≡ Ok y → FitsSigned w64 y
kept_fits true z y fits given = let same : z ≡ y = cc in subst (λ x. FitsSigned w64 x) same (is_i64-fits z fits)
kept_fits false z y fits given = cc

-- an integer that was found to be of 64 bits is
pub within_fits : (z y : ℤ) → fits_integer z ≡ Ok y → FitsSigned w64 y
within_fits z y given = kept_fits (is_i64 z) z y refl given
