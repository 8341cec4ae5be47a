-- The least number after another is the first from the next one on.
use Rattle.std.proofs.Common.{◌≡◌, ℕ, zero, suc, ◌+◌, ◌-◌, ◌≤◌, ◌<◌, Bool, true, false, if◌then◌else◌, List, [], ◌∷◌, drop, Option, Some, None, refl, ap, subst}
use Rattle.std.proofs.Common.{◌∙◌, arith, add-zero, zero-add, suc-add, inl, inr}
use Rattle.std.proofs.lemmas.Bool.{cases_eq}
use Rattle.selective_undo.specs.Log.{first_from}
use Rattle.wb_footprints.specs.Relation.{IsLeastAfter}
use Rattle.wb_log.specs.Kept.{footprint_at_number}

abbrev IsLeastFrom : (ℕ → Bool) → ℕ → Option ℕ → Type 0
IsLeastFrom q i None = (n : ℕ) → i ≤ n → q n ≡ false
IsLeastFrom q i (Some j) = (i ≤ j) × (q j ≡ true) × ((n : ℕ) → i ≤ n → n < j → q n ≡ false)

pick : (b : Bool) (i : ℕ) (x r : Option ℕ) → (b ≡ true → Some i ≡ r) → (b ≡ false → x ≡ r) → (if b then Some i else x) ≡ r
pick true i x r passes fails = passes refl
pick false i x r passes fails = fails refl

dropped : {F : Type 0} (k : ℕ) (xs : List (Option F)) (m : ℕ) → footprint_at_number xs (k + m) ≡ footprint_at_number (drop k xs) m
dropped zero xs m = ap (footprint_at_number xs) (zero-add m)
dropped (suc k) [] m = refl
dropped (suc k) (x ∷ xs) m = ap (footprint_at_number (x ∷ xs)) (suc-add k m) ∙ dropped k xs m

from : (q : ℕ → Bool) (k : ℕ) (r : Option ℕ) → IsLeastAfter q k r → IsLeastFrom q (suc k) r
from q k None h = h
from q k (Some j) h = h

module _ {F : Type 0} (p : Option F → Bool) (none : p None ≡ false) (q : ℕ → Bool) where
  past : (i j : ℕ) → q i ≡ false → i ≤ j → q j ≡ true → i + 1 ≤ j
  past i j fails up passes = elim (cases_eq i j) [ inl e ↦ (let at : q j ≡ false = subst (λ (x : ℕ). q x ≡ false) e fails in cc) | inr ne ↦ omega (arith, ne) ]

  same : (i j : ℕ) → q i ≡ true → IsLeastFrom q i (Some j) → i ≡ j
  same i j passes h = elim (cases_eq i j) [
    | inl e ↦ e
    | inr ne ↦
        (let up = h.0 in let low : i < j = omega (arith, ne) in let fails = h.2 i (omega arith) low in cc)
  ]

  next : (i : ℕ) (r : Option ℕ) → q i ≡ false → IsLeastFrom q i r → IsLeastFrom q (i + 1) r
  next i None fails h = λ n up. h n (omega arith)
  next i (Some j) fails h = (past i j fails h.0 h.1, h.1, λ n up down. h.2 n (omega arith) down)

  nothing : (i : ℕ) (r : Option ℕ) → ((n : ℕ) → i ≤ n → q n ≡ false) → IsLeastFrom q i r → None ≡ r
  nothing i None fails h = refl
  nothing i (Some j) fails h = let bad = fails j h.0 in let good = h.1 in cc

  here : (i : ℕ) (r : Option ℕ) → q i ≡ true → IsLeastFrom q i r → Some i ≡ r
  here i None passes h = let bad = h i (omega arith) in cc
  here i (Some j) passes h = ap Some (same i j passes h)

  shift : (i m : ℕ) → (i + 1) + m ≡ i + suc m
  shift i m = omega arith

  pub first_is : (i : ℕ) (ys : List (Option F)) (r : Option ℕ) → ((m : ℕ) → q (i + m) ≡ p (footprint_at_number ys m)) → IsLeastFrom q i r →
      first_from p i ys ≡ r
  first_is i [] r e h = nothing i r (λ n up. let k : i + (n - i) ≡ n = omega arith in subst (λ (x : ℕ). q x ≡ false) k (e (n - i) ∙ none)) h
  first_is i (y ∷ ys) r e h =
      let at : q i ≡ p y = subst (λ (x : ℕ). q x ≡ p y) (add-zero i) (e 0) in
      pick (p y) i (first_from p (i + 1) ys) r
      (λ passes. here i r (at ∙ passes) h)
      (λ fails. first_is (i + 1) ys r (λ m. ap q (shift i m) ∙ e (suc m)) (next i r (at ∙ fails) h))

-- as a history asks for it
pub first_after : {F : Type 0} (p : Option F → Bool) → p None ≡ false → (xs : List (Option F)) (k : ℕ) (r : Option ℕ) →
    IsLeastAfter (λ n. p (footprint_at_number xs n)) k r → first_from p (suc k) (drop (suc k) xs) ≡ r
first_after p none xs k r h = first_is p none (λ n. p (footprint_at_number xs n)) (suc k) (drop (suc k) xs) r (λ m. ap p (dropped (suc k) xs m))
    (from (λ n. p (footprint_at_number xs n)) k r h)
