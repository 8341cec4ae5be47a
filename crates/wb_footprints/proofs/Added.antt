-- What a set of numbers has once one came in.
use Rattle.std.proofs.Common.{◌≡◌, ℕ, ◌==◌, true, false, if◌then◌else◌, ◌⊎◌, inl, inr, refl, sym, ap, ◌∙◌, arith}
use Rattle.std.proofs.lemmas.Bool.{cases_eq}
use Rattle.std.proofs.lemmas.Bool.Decides.{nat_tests}
use Rattle.wb_footprints.specs.Numbers.{Numbers, numbered}

pub at_self : (a : ℕ) → (a == a) ≡ true
at_self a = grind (arith, nat_tests)

pub at_other : (a b : ℕ) → (a ≡ b → ⊥) → (a == b) ≡ false
at_other a b apart = grind (arith, nat_tests)

module _ (old new : Numbers) (j : ℕ) (is : (n : ℕ) → numbered new n ≡ (if j == n then true else numbered old n)) where
  pub added_here : numbered new j ≡ true
  added_here = is j ∙ ap (λ b. if b then true else numbered old j) (at_self j)

  pub added_stays : (n : ℕ) → numbered old n ≡ true → numbered new n ≡ true
  added_stays n had = is n ∙ elim (j == n) as (λ b. (if b then true else numbered old n) ≡ true) [ true ↦ refl | false ↦ had ]

  pub added_from : (n : ℕ) → numbered new n ≡ true → (numbered old n ≡ true) ⊎ (j ≡ n)
  added_from n has = elim (cases_eq j n) [
    | inl same ↦ inr same
    | inr apart ↦ inl (sym (is n ∙ ap (λ b. if b then true else numbered old n) (at_other j n apart)) ∙ has)
  ]
