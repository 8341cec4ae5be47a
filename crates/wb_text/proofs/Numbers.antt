-- Numbers of 64 bits may be written.
use Rattle.std.proofs.Common.{ℤ, pos, negsuc, FitsSigned, w64, List, [], ◌∷◌, arith}
use Rattle.std.proofs.lemmas.Int.{ints}
use Rattle.std.proofs.lemmas.List.Elements.{recursion_from_All}
use Rattle.std.specs.List.{All, AllByRecursion}
use Rattle.wb_literals.specs.Integer.{IsWithin}
use Rattle.wb_text.proofs.ReadIndices.{AreWithin}

pub fits_within : (z : ℤ) → FitsSigned w64 z → IsWithin z
fits_within (pos n) h = omega (arith, ints, h)
fits_within (negsuc n) h = omega (arith, ints, h)

all_within : (is : List ℤ) → AllByRecursion (FitsSigned w64) is → AreWithin is
all_within [] h = tt
all_within (i ∷ is) h = (fits_within i h.0, all_within is h.1)

pub fit_within : (is : List ℤ) → All (FitsSigned w64) is → AreWithin is
fit_within is h = all_within is (recursion_from_All (FitsSigned w64) is h)
