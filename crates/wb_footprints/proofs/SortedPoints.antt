-- Points and labels in order, each once: the same tests find one of them.
use Rattle.std.proofs.Common.{◌≡◌, ◌↔◌, Bool, true, List, [], ◌∷◌, refl, ap, ◌∙◌}
use Rattle.std.specs.Cmp.{IsTotalOrder}
use Rattle.std.specs.FinMap.{IsAntisymmetric}
use Rattle.std.specs.List.{list_any, Contains}
use Rattle.std.specs.List.Retain.{IsFiltered, DiffersFromLast}
use Rattle.std.specs.List.Sorted.{IsPermutation, IsSorted, IsStrictlySortedBy}
use Rattle.std.specs.Ordering.{eq_by_cmp}
use Rattle.std.specs.declared.cmp.Ordering.{Ordering}
use Rattle.std.proofs.lemmas.Cmp.{eq_by_cmp_equiv}
use Rattle.std.proofs.lemmas.List.Folds.{Any-from_list_any, list_any_at}
use Rattle.wb_sets.proofs.Gathered.{members-gathered, ascending-gathered}
use Rattle.wb_footprints.proofs.Joining.{same_from}

any_among : {X : Type 0} (f : X → Bool) (xs ys : List X) → ((x : X) → Contains xs x → Contains ys x) → list_any f xs ≡ true → list_any f ys ≡ true
any_among f xs ys h e =
    let one = Any-from_list_any f xs e in
    let there = h one.1 (one.0, one.2, one.3) in
    list_any_at f ys there.0 one.1 there.1 (ap f there.2 ∙ one.4)

pub same_any : {X : Type 0} (f : X → Bool) (xs ys : List X) → ((x : X) → Contains ys x ↔ Contains xs x) → list_any f ys ≡ list_any f xs
same_any f xs ys h = same_from (list_any f ys) (list_any f xs) (any_among f ys xs (λ x. (h x).0)) (any_among f xs ys (λ x. (h x).1))

module _ {K : Type 0} (cmp : K → K → Ordering) (total : IsTotalOrder cmp) (exact : IsAntisymmetric cmp) where
  module _ (xs ys zs : List K) (sorted : IsSorted cmp ys) (kept : IsFiltered (DiffersFromLast (eq_by_cmp cmp)) [] ys zs) where
    pub ascending : IsStrictlySortedBy cmp zs
    ascending = ascending-gathered cmp total exact (eq_by_cmp cmp) (eq_by_cmp_equiv total) (λ x y. refl) ys zs sorted kept

    pub found_alike : IsPermutation xs ys → (f : K → Bool) → list_any f zs ≡ list_any f xs
    found_alike moved f = same_any f xs zs
        (members-gathered cmp total exact (eq_by_cmp cmp) (eq_by_cmp_equiv total) (λ x y. refl) xs ys zs moved kept)

  pub alone : (p : K) → IsStrictlySortedBy cmp (p ∷ [])
  unfolding IsStrictlySortedBy
  alone p = (tt, tt)
