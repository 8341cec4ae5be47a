-- A text is read as a whole just where all of it spells the value.
use Rattle.std.proofs.Common.{◌≡◌, ◌↔◌, ℕ, Bool, true, false, cond, nat_eq, List, [], ◌∷◌, ◌++◌, length, Option, Some, None, option_and_then, refl, sym, ap}
use Rattle.std.proofs.Common.{◌∙◌, subst, append-nil, eqb-true, arith}
use Rattle.std.proofs.lemmas.Option.{same_Some, option_and_then_some}
use Rattle.wb_literals.specs.Tokens.{whole}

empty_by : (t : Bool) (l : List ℕ) → nat_eq (length l) 0 ≡ t → t ≡ true → l ≡ []
empty_by t [] e f = refl
empty_by t (b ∷ l) e f = absurd (omega (arith, eqb-true (length (b ∷ l)) 0 (e ∙ f)))

whole_by : {X : Type 0} (t : Bool) (x y : X) (l : List ℕ) → nat_eq (length l) 0 ≡ t → cond {A = Option X} t (Some x) None ≡ Some y →
    ◌≡◌ {A = Option (X × List ℕ)} (Some (x, l)) (Some (y, []))
whole_by true x y l t e = let n = empty_by true l t refl in ap (λ m. Some (x, m)) n ∙ ap (λ z. Some (z, [])) (same_Some x y e)
whole_by false x y l t e = absurd (cc)

-- a reader that finds what is spelled, and reads it where the text ends, is exact
pub exact : {X : Type 0} (at : List ℕ → Option (X × List ℕ)) (G : List ℕ → X → Type 0)
    → ((bytes rest : List ℕ) (x : X) → at bytes ≡ Some (x, rest) → (text : List ℕ) × G text x × (bytes ≡ text ++ rest))
    → ((text : List ℕ) (x : X) → G text x → at (text ++ []) ≡ Some (x, []))
    → (text : List ℕ) (x : X) → (whole at text ≡ Some x) ↔ G text x
exact {X} at G found read text x = (
  λ e. option_and_then_some (λ (p : X × List ℕ). cond (nat_eq (length p.1) 0) (Some p.0) None) (at text) x e (λ p o f.
      let s = found text [] x (o ∙ whole_by (nat_eq (length p.1) 0) p.0 x p.1 refl f) in
      subst (λ y. G y x) (sym (s.2 ∙ append-nil s.0)) s.1),
  λ h. ap (option_and_then (λ (p : X × List ℕ). cond (nat_eq (length p.1) 0) (Some p.0) None)) (ap at (sym (append-nil text)) ∙ read text x h),
)
