-- What a shift of a rectangle answers, said by the tests that compute.
use Rattle.std.proofs.Common.{◌≡◌, ◌↔◌, Bool, true, false, Decides, Result, Ok, Err, refl}
use Rattle.std.specs.Result.{OnOk}
use Rattle.wb_rect.specs.declared.rect.RectErr.{RectErr}
use Rattle.wb_rect.specs.declared.rect.RectErr.TheVariants.{Strided, TooLarge}

-- a test that decides a fact is false where the fact doesn't hold
refuted : {P : Type 0} (b : Bool) → Decides b P → ¬ P → b ≡ false
refuted true d n = absurd (n (d.0 refl))
refuted false d n = refl

denied : {P : Type 0} (b : Bool) → Decides b P → b ≡ false → P → ⊥
denied b d e p = let t : b ≡ true = d.1 p in let no : true ≡ false = cc in cc

-- the strides are tested first, then the limits
module _ {X U T : Type 0} (r : Result X RectErr) (unit fits : Bool) (d : Decides unit U) (f : Decides fits T) (s : (r ≡ Err Strided) ↔ (¬ U))
    (l : (r ≡ Err TooLarge) ↔ (U × (¬ T))) where
  pub strided_by_test : (r ≡ Err Strided) ↔ (unit ≡ false)
  strided_by_test = (λ e. refuted unit d (s.0 e), λ e. s.1 (denied unit d e))

  pub too_large_by_tests : (r ≡ Err TooLarge) ↔ ((unit ≡ true) × (fits ≡ false))
  too_large_by_tests = (λ e. let h = l.0 e in (d.1 h.0, refuted fits f h.1), λ h. l.1 (d.0 h.0, denied fits f h.1))

  pub within_by_tests : OnOk r ((unit ≡ true) × (fits ≡ true))
  within_by_tests = by r unit fits strided_by_test.1 (λ a b. too_large_by_tests.1 (a, b))
    where
      by : (q : Result X RectErr) (a b : Bool) → (a ≡ false → q ≡ Err Strided) → (a ≡ true → b ≡ false → q ≡ Err TooLarge) → OnOk q ((a ≡ true) × (b ≡ true))
      by (Err e) a b g h = tt
      by (Ok x) false b g h = let no : Ok x ≡ Err Strided = g refl in absurd (cc)
      by (Ok x) true false g h = let no : Ok x ≡ Err TooLarge = h refl refl in absurd (cc)
      by (Ok x) true true g h = (refl, refl)
