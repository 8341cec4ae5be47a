-- Indices in ascending order, each once: they are the same ones.
use Rattle.std.proofs.Common.{◌≡◌, ◌↔◌, Bool, true, false, ◌||◌, List, [], ◌∷◌, Result, Ok, Err, refl, sym, ap, ◌∙◌}
use Rattle.std.specs.Result.{IfOk}
use Rattle.std.specs.declared.cmp.Ordering.{Ordering}
use Rattle.std.specs.declared.cmp.Ordering.TheVariants.{Less, Equal, Greater}
use Rattle.std.specs.Ordering.{ordering_reverse}
use Rattle.std.specs.List.{AllByRecursion, Contains}
use Rattle.std.specs.List.Sorted.{IsStrictlySortedBy}
use Rattle.wb_sets.proofs.Unique.{same_members}
use Rattle.wb_cells.specs.declared.values.index.Index.{Index}
use Rattle.wb_cells.specs.Cells.{index_cmp, index_cmp-IsAntisymmetric, is_same_index}
use Rattle.wb_cells.specs.WellFormed.{has}
use Rattle.wb_reshape.specs.Sources.{placed, inserted, ascending}
use Rattle.wb_reshape.proofs.Members.{index_total, Contains-has, has-Contains}

-- ---- the same members

or_again : (a b : Bool) → (a || b) ≡ (a || (a || b))
or_again true b = refl
or_again false b = refl

or_swap : (a b c : Bool) → (b || (a || c)) ≡ (a || (b || c))
or_swap true true c = refl
or_swap true false c = refl
or_swap false b c = refl

has_placed : (o : Ordering) (i j : Index) (js rest : List Index) (k : Index) → index_cmp i j ≡ o → has rest k ≡ (is_same_index k i || has js k) →
    has (placed o i j js rest) k ≡ (is_same_index k i || (is_same_index k j || has js k))
has_placed Less i j js rest k e more = refl
has_placed Equal i j js rest k e more =
    let same : i ≡ j = index_cmp-IsAntisymmetric i j e in
    or_again (is_same_index k j) (has js k) ∙ ap (λ x. is_same_index k x || (is_same_index k j || has js k)) (sym same)
has_placed Greater i j js rest k e more = ap (λ b. is_same_index k j || b) more ∙ or_swap (is_same_index k i) (is_same_index k j) (has js k)

has_inserted : (i : Index) (js : List Index) (k : Index) → has (inserted i js) k ≡ (is_same_index k i || has js k)
has_inserted i [] k = refl
has_inserted i (j ∷ js) k = has_placed (index_cmp i j) i j js (inserted i js) k refl (has_inserted i js k)

pub has-ascending : (is : List Index) (k : Index) → has (ascending is) k ≡ has is k
has-ascending [] k = refl
has-ascending (i ∷ is) k = has_inserted i (ascending is) k ∙ ap (λ b. is_same_index k i || b) (has-ascending is k)

pub Contains-ascending : (is : List Index) (k : Index) → Contains (ascending is) k ↔ Contains is k
Contains-ascending is k = (
  λ m. Contains-has is k (sym (has-ascending is k) ∙ has-Contains (ascending is) k m),
  λ m. Contains-has (ascending is) k (has-ascending is k ∙ has-Contains is k m),
)

-- ---- what holds of each

module _ (P : Index → Type 0) where
  all_placed : (o : Ordering) (i j : Index) (js rest : List Index) → P i → P j → AllByRecursion P js → AllByRecursion P rest →
      AllByRecursion P (placed o i j js rest)
  all_placed Less i j js rest p q all more = (p, (q, all))
  all_placed Equal i j js rest p q all more = (q, all)
  all_placed Greater i j js rest p q all more = (q, more)

  all_inserted : (i : Index) (js : List Index) → P i → AllByRecursion P js → AllByRecursion P (inserted i js)
  all_inserted i [] p all = (p, tt)
  all_inserted i (j ∷ js) p all = all_placed (index_cmp i j) i j js (inserted i js) p all.0 all.1 (all_inserted i js p all.1)

-- ---- in order

below_all : (i j : Index) (js : List Index) → index_cmp i j ≡ Less → AllByRecursion (λ k. index_cmp j k ≡ Less) js →
    AllByRecursion (λ k. index_cmp i k ≡ Less) js
below_all i j [] e low = tt
below_all i j (k ∷ js) e low = (index_total.trans i j k e low.0, below_all i j js e low.1)

sorted_placed : (o : Ordering) (i j : Index) (js rest : List Index) → index_cmp i j ≡ o → IsStrictlySortedBy index_cmp (j ∷ js) →
    (index_cmp j i ≡ Less → AllByRecursion (λ k. index_cmp j k ≡ Less) rest) → IsStrictlySortedBy index_cmp rest →
    IsStrictlySortedBy index_cmp (placed o i j js rest)
unfolding IsStrictlySortedBy
sorted_placed Less i j js rest e sorted low more = ((e, below_all i j js e sorted.0), sorted)
sorted_placed Equal i j js rest e sorted low more = sorted
sorted_placed Greater i j js rest e sorted low more = (low (index_total.antisymm j i ∙ ap ordering_reverse e), more)

sorted_inserted : (i : Index) (js : List Index) → IsStrictlySortedBy index_cmp js → IsStrictlySortedBy index_cmp (inserted i js)
unfolding IsStrictlySortedBy
sorted_inserted i [] sorted = (tt, tt)
sorted_inserted i (j ∷ js) sorted =
    sorted_placed (index_cmp i j) i j js (inserted i js) refl sorted (λ e. all_inserted (λ k. index_cmp j k ≡ Less) i js e sorted.0)
    (sorted_inserted i js sorted.1)

pub sorted-ascending : (is : List Index) → IsStrictlySortedBy index_cmp (ascending is)
unfolding IsStrictlySortedBy
sorted-ascending [] = tt
sorted-ascending (i ∷ is) = sorted_inserted i (ascending is) (sorted-ascending is)

-- an ascending list with the members of another one is that one, in ascending order
pub is_ascending : (xs is : List Index) → IsStrictlySortedBy index_cmp xs → ((k : Index) → Contains xs k ↔ Contains is k) → xs ≡ ascending is
is_ascending xs is sorted same =
    same_members index_cmp index_total index_cmp-IsAntisymmetric xs (ascending is) sorted (sorted-ascending is) (λ k. (
      λ m. (Contains-ascending is k).1 ((same k).0 m),
      λ m. (same k).1 ((Contains-ascending is k).0 m),
    ))

-- where there is such a list
pub ascending_if : {E : Type 0} (r : Result (List Index) E) (is : List Index) → IfOk r (λ xs. (k : Index) → Contains xs k ↔ Contains is k) →
    IfOk r (λ xs. IsStrictlySortedBy index_cmp xs) → IfOk r (λ xs. xs ≡ ascending is)
ascending_if (Ok xs) is same sorted = is_ascending xs is sorted same
ascending_if (Err e) is same sorted = tt
