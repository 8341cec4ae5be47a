-- a set has one ascending list
use Rattle.std.proofs.Common.{◌≡◌, ◌↔◌, ◌⊎◌, inl, inr, List, [], ◌∷◌, refl, sym, ap, subst, ◌∙◌, arith}
use Rattle.std.specs.declared.cmp.Ordering.{Ordering}
use Rattle.std.specs.declared.cmp.Ordering.TheVariants.{Less, Equal, Greater}
use Rattle.std.specs.Ordering.{ordering_reverse}
use Rattle.std.specs.Cmp.{IsTotalOrder}
use Rattle.std.specs.FinMap.{IsAntisymmetric}
use Rattle.std.specs.List.{Contains}
use Rattle.std.specs.List.Sorted.{IsStrictlySortedBy}
use Rattle.std.proofs.lemmas.Map.Keys.{sorted_tail}
use Rattle.wb_sets.proofs.Members.{contains_cons, cons_contains, first_contains}
use Rattle.wb_sets.proofs.Merge.{IsAbove, head_below, above_cons, not_above_itself}

module _ {K : Type 0} (cmp : K → K → Ordering) (total : IsTotalOrder cmp) (exact : IsAntisymmetric cmp) where
  not_before : (x y : K) (ys : List K) → cmp x y ≡ Less → IsAbove cmp y ys → Contains (y ∷ ys) x → ⊥
  not_before x y ys e h m = not_above_itself cmp total exact x (y ∷ ys) (above_cons cmp total exact x y ys e h) m

  rest_in : (x y : K) (xs ys : List K) (k : K) → x ≡ y → IsAbove cmp x xs → (Contains (x ∷ xs) k → Contains (y ∷ ys) k) → Contains xs k → Contains ys k
  rest_in x y xs ys k e h f m = let n = f (cons_contains x xs k m) in by (contains_cons y ys k n.0 n.1 n.2)
    where
      by : (k ≡ y) ⊎ Contains ys k → Contains ys k
      by (inl g) = let z : k ≡ x = g ∙ sym e in absurd (not_above_itself cmp total exact x xs h (subst (λ (j : K). Contains xs j) z m))
      by (inr n) = n

  -- ascending lists with the same elements are one
  pub same_members : (xs ys : List K) → IsStrictlySortedBy cmp xs → IsStrictlySortedBy cmp ys → ((k : K) → Contains xs k ↔ Contains ys k) → xs ≡ ys
  same_members [] [] s t h = refl
  same_members [] (y ∷ ys) s t h = let m = (h y).1 (first_contains y ys y refl) in absurd (omega (arith, m.1))
  same_members (x ∷ xs) [] s t h = let m = (h x).0 (first_contains x xs x refl) in absurd (omega (arith, m.1))
  same_members (x ∷ xs) (y ∷ ys) s t h = by (cmp x y) refl (λ g. same_members xs ys (sorted_tail cmp x xs s) (sorted_tail cmp y ys t) g)
    where
      below_x : IsAbove cmp x xs
      below_x = head_below cmp x xs s

      below_y : IsAbove cmp y ys
      below_y = head_below cmp y ys t

      by : (o : Ordering) → cmp x y ≡ o → (((k : K) → Contains xs k ↔ Contains ys k) → xs ≡ ys) → x ∷ xs ≡ y ∷ ys
      by Less e again = absurd (not_before x y ys e below_y ((h x).0 (first_contains x xs x refl)))
      by Greater e again =
          let g : cmp y x ≡ Less = total.antisymm y x ∙ ap ordering_reverse e in
          absurd (not_before y x xs g below_x ((h y).1 (first_contains y ys y refl)))
      by Equal e again =
          let f : x ≡ y = exact x y e in
          let r : xs ≡ ys = again (λ k. (rest_in x y xs ys k f below_x (h k).0, rest_in y x ys xs k (sym f) below_y (h k).1)) in
          cc
