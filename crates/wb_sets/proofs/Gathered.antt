-- a list sorted, and one of each of its elements kept
use Rattle.std.proofs.Common.{◌≡◌, ◌↔◌, Bool, true, List, [], sym, subst, ◌∙◌, arith}
use Rattle.std.specs.declared.cmp.Ordering.{Ordering}
use Rattle.std.specs.declared.cmp.Ordering.TheVariants.{Equal}
use Rattle.std.specs.Ordering.{is_eq, eq_by_cmp}
use Rattle.std.specs.Cmp.{IsTotalOrder, IsEquivalence}
use Rattle.std.specs.FinMap.{IsAntisymmetric}
use Rattle.std.specs.List.{Contains, dedup}
use Rattle.std.specs.List.Sorted.{IsPermutation, IsSorted, IsStrictlySortedBy}
use Rattle.std.specs.List.Retain.{IsFiltered, DiffersFromLast}
use Rattle.std.proofs.lemmas.List.Filters.{dedup_is}
use Rattle.std.proofs.lemmas.List.Kept.{Contains-dedup, Contains-from_dedup, IsStrictlySortedBy-dedup}
use Rattle.std.proofs.lemmas.List.Sorted.{IsPermutation-sym, Contains-permutation}

is_equal : (o : Ordering) → is_eq o ≡ true → o ≡ Equal
is_equal o h = grind arith

module _ {K : Type 0} (cmp : K → K → Ordering) (total : IsTotalOrder cmp) (exact : IsAntisymmetric cmp) (same : K → K → Bool) (equiv : IsEquivalence same)
    (ties : (x y : K) → same x y ≡ eq_by_cmp cmp x y) where
  same_is : (x y : K) → same x y ≡ true → x ≡ y
  same_is x y h = exact x y (is_equal (cmp x y) (sym (ties x y) ∙ h))

  pub members-gathered : (xs ys zs : List K) → IsPermutation xs ys → IsFiltered (DiffersFromLast same) [] ys zs → (k : K) → Contains zs k ↔ Contains xs k
  members-gathered xs ys zs p f k =
      let e : zs ≡ dedup same ys = dedup_is same ys zs f in (
        λ m. Contains-permutation ys xs k (IsPermutation-sym xs ys p) (Contains-from_dedup same ys k (subst (λ (us : List K). Contains us k) e m)),
        λ m. subst (λ (us : List K). Contains us k) (sym e) (Contains-dedup equiv same_is ys k (Contains-permutation xs ys k p m)),
      )

  pub ascending-gathered : (ys zs : List K) → IsSorted cmp ys → IsFiltered (DiffersFromLast same) [] ys zs → IsStrictlySortedBy cmp zs
  ascending-gathered ys zs s f = subst (λ (us : List K). IsStrictlySortedBy cmp us) (sym (dedup_is same ys zs f)) (IsStrictlySortedBy-dedup total ties ys s)
