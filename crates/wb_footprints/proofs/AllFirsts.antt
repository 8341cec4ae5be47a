-- The least above a number, and then the least above that one, and so on.
use Rattle.std.proofs.Common.{ℕ, Bool, List, [], ◌∷◌, ◌++◌, Some, None, refl, subst}
use Rattle.wb_footprints.specs.Relation.{IsLeastAfter, AreFirstAfter, AreAllAfter}

module _ (p : ℕ → Bool) where
  pub one_more : (xs : List ℕ) (after last j : ℕ) → AreFirstAfter p after xs last → IsLeastAfter p last (Some j) → AreFirstAfter p after (xs ++ j ∷ []) j
  one_more [] after last j e h = (subst (λ (l : ℕ). IsLeastAfter p l (Some j)) e h, refl)
  one_more (x ∷ xs) after last j e h = (e.0, one_more xs x last j e.1 h)

  pub all_found : (xs : List ℕ) (after last : ℕ) → AreFirstAfter p after xs last → IsLeastAfter p last None → AreAllAfter p after xs
  all_found [] after last e h = subst (λ (l : ℕ). IsLeastAfter p l None) e h
  all_found (x ∷ xs) after last e h = (e.0, all_found xs x last e.1 h)
