-- what a merge of ascending lists has
use Rattle.std.proofs.Common.{◌≡◌, ◌≢◌, ◌↔◌, ◌⊎◌, inl, inr, ℕ, suc, ◌≤◌, Bool, true, false, List, [], ◌∷◌, ◌++◌, length, drop, Result, Ok, Err, refl, sym, ap}
use Rattle.std.proofs.Common.{subst, ◌∙◌, arith, append-nil}
use Rattle.std.specs.declared.cmp.Ordering.{Ordering}
use Rattle.std.specs.declared.cmp.Ordering.TheVariants.{Less, Equal, Greater}
use Rattle.std.specs.Ordering.{ordering_reverse}
use Rattle.std.specs.Result.{IfOk}
use Rattle.std.specs.Cmp.{IsTotalOrder}
use Rattle.std.specs.FinMap.{IsAntisymmetric}
use Rattle.std.specs.List.{Contains, AllByRecursion}
use Rattle.std.proofs.lemmas.Cmp.{tied_itself}
use Rattle.std.specs.List.Sorted.{IsStrictlySortedBy}
use Rattle.std.proofs.lemmas.Map.Keys.{Less-from_sorted, sorted_tail}
use Rattle.std.proofs.lemmas.List.{drop_all}
use Rattle.wb_sets.specs.Merge.{with_if, all_if, IsKept, in_first, in_both, in_second}
use Rattle.wb_sets.specs.declared.merging.KeptKeys.{KeptKeys}
use Rattle.wb_sets.proofs.Members.{contains_cons, cons_contains, first_contains, one_less}
use Rattle.wb_sets.proofs.Merged.{by_order, merged_first, merged}
use Rattle.wb_range.specs.Lookup.{has}
use Rattle.wb_range.proofs.Lookup.{Contains-has, has_at}

pub split_with_if : {K : Type 0} (b : Bool) (x : K) (zs : List K) (k : K) → Contains (with_if b x zs) k → ((b ≡ true) × (k ≡ x)) ⊎ Contains zs k
split_with_if true x zs k m = by (contains_cons x zs k m.0 m.1 m.2)
  where
    by : (k ≡ x) ⊎ Contains zs k → ((true ≡ true) × (k ≡ x)) ⊎ Contains zs k
    by (inl e) = inl (refl, e)
    by (inr h) = inr h
split_with_if false x zs k m = inr m

-- the merge of a list with none
pub merged_none : {K : Type 0} (cmp : K → K → Ordering) (kept : KeptKeys) (xs : List K) → merged cmp kept xs [] ≡ all_if kept.first xs
merged_none cmp kept [] = both_none kept.second kept.first
  where
    both_none : {K : Type 0} (a b : Bool) → all_if {K = K} a [] ≡ all_if b []
    both_none true true = refl
    both_none true false = refl
    both_none false true = refl
    both_none false false = refl
merged_none cmp kept (x ∷ xs) = ap (λ zs. with_if kept.first x zs) (merged_none cmp kept xs) ∙ with_all kept.first
  where
    with_all : (b : Bool) → with_if b x (all_if b xs) ≡ all_if b (x ∷ xs)
    with_all true = refl
    with_all false = refl

none_if : {K : Type 0} (b : Bool) → all_if {K = K} b [] ≡ []
none_if true = refl
none_if false = refl

-- at the end of one list the rest of both is what is left of the merge
pub merged_rest : {K : Type 0} (cmp : K → K → Ordering) (kept : KeptKeys) (xs ys : List K) (i j : ℕ) → (length xs ≤ i) ⊎ (length ys ≤ j) →
    all_if kept.first (drop i xs) ++ all_if kept.second (drop j ys) ≡ merged cmp kept (drop i xs) (drop j ys)
merged_rest cmp kept xs ys i j (inl l) = let e = drop_all i xs l in rw (e, none_if kept.first) refl
merged_rest cmp kept xs ys i j (inr l) = let e = drop_all j ys l in
    rw (e, none_if kept.second, merged_none cmp kept (drop i xs)) (append-nil (all_if kept.first (drop i xs)))

all_if_from : {K : Type 0} (b : Bool) (xs : List K) (k : K) → Contains (all_if b xs) k → Contains xs k
all_if_from true xs k m = m
all_if_from false xs k m = absurd (omega (arith, m.1))

from_first : {K : Type 0} (cmp : K → K → Ordering) (kept : KeptKeys) (x : K) (xs ys : List K) (k : K) →
    ((zs : List K) → Contains (merged cmp kept xs zs) k → Contains xs k ⊎ Contains zs k) → Contains (merged_first cmp kept x (merged cmp kept xs) ys) k →
    Contains (x ∷ xs) k ⊎ Contains ys k
from_first {K = K} cmp kept x xs [] k again m = by (split_with_if kept.first x (merged cmp kept xs []) k m)
  where
    later : Contains xs k ⊎ Contains [] k → Contains (x ∷ xs) k ⊎ Contains [] k
    later (inl h) = inl (cons_contains x xs k h)
    later (inr h) = inr h

    by : ((kept.first ≡ true) × (k ≡ x)) ⊎ Contains (merged cmp kept xs []) k → Contains (x ∷ xs) k ⊎ Contains [] k
    by (inl e) = inl (first_contains x xs k e.1)
    by (inr h) = later (again [] h)
from_first {K = K} cmp kept x xs (y ∷ ys) k again m = by (cmp x y) m (λ h. from_first cmp kept x xs ys k again h)
  where
    later : (zs : List K) → Contains xs k ⊎ Contains zs k → Contains (x ∷ xs) k ⊎ Contains zs k
    later zs (inl h) = inl (cons_contains x xs k h)
    later zs (inr h) = inr h

    longer : Contains (x ∷ xs) k ⊎ Contains ys k → Contains (x ∷ xs) k ⊎ Contains (y ∷ ys) k
    longer (inl h) = inl h
    longer (inr h) = inr (cons_contains y ys k h)

    less : ((kept.first ≡ true) × (k ≡ x)) ⊎ Contains (merged cmp kept xs (y ∷ ys)) k → Contains (x ∷ xs) k ⊎ Contains (y ∷ ys) k
    less (inl e) = inl (first_contains x xs k e.1)
    less (inr h) = later (y ∷ ys) (again (y ∷ ys) h)

    equal : ((kept.both ≡ true) × (k ≡ x)) ⊎ Contains (merged cmp kept xs ys) k → Contains (x ∷ xs) k ⊎ Contains (y ∷ ys) k
    equal (inl e) = inl (first_contains x xs k e.1)
    equal (inr h) = longer (later ys (again ys h))

    greater : (Contains (merged_first cmp kept x (merged cmp kept xs) ys) k → Contains (x ∷ xs) k ⊎ Contains ys k) → ((kept.second ≡ true) × (k ≡ y)) ⊎
        Contains (merged_first cmp kept x (merged cmp kept xs) ys) k → Contains (x ∷ xs) k ⊎ Contains (y ∷ ys) k
    greater on (inl e) = inr (first_contains y ys k e.1)
    greater on (inr h) = longer (on h)

    by : (o : Ordering) → Contains (by_order o (with_if kept.first x (merged cmp kept xs (y ∷ ys))) (with_if kept.both x (merged cmp kept xs ys))
        (with_if kept.second y (merged_first cmp kept x (merged cmp kept xs) ys))) k →
        (Contains (merged_first cmp kept x (merged cmp kept xs) ys) k → Contains (x ∷ xs) k ⊎ Contains ys k) → Contains (x ∷ xs) k ⊎ Contains (y ∷ ys) k
    by Less h on = less (split_with_if kept.first x (merged cmp kept xs (y ∷ ys)) k h)
    by Equal h on = equal (split_with_if kept.both x (merged cmp kept xs ys) k h)
    by Greater h on = greater on (split_with_if kept.second y (merged_first cmp kept x (merged cmp kept xs) ys) k h)

-- each key of a merge is a key of one of the lists
pub from-merged : {K : Type 0} (cmp : K → K → Ordering) (kept : KeptKeys) (xs ys : List K) (k : K) → Contains (merged cmp kept xs ys) k → Contains xs k ⊎
    Contains ys k
from-merged cmp kept [] ys k m = inr (all_if_from kept.second ys k m)
from-merged cmp kept (x ∷ xs) ys k m = from_first cmp kept x xs ys k (λ zs h. from-merged cmp kept xs zs k h) m

-- each key of the list is above x
abbrev pub IsAbove : {K : Type 0} → (K → K → Ordering) → K → List K → Type 0
IsAbove {K} cmp x xs = (k : K) → Contains xs k → cmp x k ≡ Less

pub head_below : {K : Type 0} (cmp : K → K → Ordering) (x : K) (xs : List K) → IsStrictlySortedBy cmp (x ∷ xs) → IsAbove cmp x xs
head_below cmp x xs s k m = rw m.2 at (Less-from_sorted cmp (x ∷ xs) 0 (suc m.0) k s (omega arith) (omega (arith, m.1)))

all_above : {K : Type 0} (cmp : K → K → Ordering) (x : K) (xs : List K) → IsAbove cmp x xs → AllByRecursion (λ y. cmp x y ≡ Less) xs
all_above cmp x [] h = tt
all_above cmp x (y ∷ ys) h = (h y (0, omega arith, refl), all_above cmp x ys (λ k m. h k (cons_contains y ys k m)))

sorted_cons : {K : Type 0} (cmp : K → K → Ordering) (x : K) (xs : List K) → IsAbove cmp x xs → IsStrictlySortedBy cmp xs → IsStrictlySortedBy cmp (x ∷ xs)
unfolding IsStrictlySortedBy
sorted_cons cmp x xs h s = (all_above cmp x xs h, s)

sorted_none : {K : Type 0} (cmp : K → K → Ordering) → IsStrictlySortedBy cmp []
unfolding IsStrictlySortedBy
sorted_none cmp = tt

sorted_with_if : {K : Type 0} (cmp : K → K → Ordering) (b : Bool) (x : K) (xs : List K) → IsAbove cmp x xs → IsStrictlySortedBy cmp xs →
    IsStrictlySortedBy cmp (with_if b x xs)
sorted_with_if cmp true x xs h s = sorted_cons cmp x xs h s
sorted_with_if cmp false x xs h s = s

sorted_all_if : {K : Type 0} (cmp : K → K → Ordering) (b : Bool) (xs : List K) → IsStrictlySortedBy cmp xs → IsStrictlySortedBy cmp (all_if b xs)
sorted_all_if cmp true xs s = s
sorted_all_if cmp false xs s = sorted_none cmp

module _ {K : Type 0} (cmp : K → K → Ordering) (total : IsTotalOrder cmp) (exact : IsAntisymmetric cmp) where
  pub above_cons : (z x : K) (xs : List K) → cmp z x ≡ Less → IsAbove cmp x xs → IsAbove cmp z (x ∷ xs)
  above_cons z x xs h a k m = by (contains_cons x xs k m.0 m.1 m.2)
    where
      by : (k ≡ x) ⊎ Contains xs k → cmp z k ≡ Less
      by (inl e) = subst (λ (y : K). cmp z y ≡ Less) (sym e) h
      by (inr n) = total.trans z x k h (a k n)

  above_merged : (kept : KeptKeys) (z : K) (xs ys : List K) → IsAbove cmp z xs → IsAbove cmp z ys → IsAbove cmp z (merged cmp kept xs ys)
  above_merged kept z xs ys a b k m = by (from-merged cmp kept xs ys k m)
    where
      by : Contains xs k ⊎ Contains ys k → cmp z k ≡ Less
      by (inl n) = a k n
      by (inr n) = b k n

  sorted_first : (kept : KeptKeys) (x : K) (xs ys : List K) → IsStrictlySortedBy cmp (x ∷ xs) → IsStrictlySortedBy cmp ys →
      ((zs : List K) → IsStrictlySortedBy cmp zs → IsStrictlySortedBy cmp (merged cmp kept xs zs)) →
      IsStrictlySortedBy cmp (merged_first cmp kept x (merged cmp kept xs) ys)
  sorted_first kept x xs [] s t again = sorted_with_if cmp kept.first x (merged cmp kept xs [])
      (above_merged kept x xs [] (head_below cmp x xs s) (λ k m. absurd (omega (arith, m.1)))) (again [] t)
  sorted_first kept x xs (y ∷ ys) s t again = by (cmp x y) refl (sorted_first kept x xs ys s (sorted_tail cmp y ys t) again)
    where
      by : (o : Ordering) → cmp x y ≡ o → IsStrictlySortedBy cmp (merged_first cmp kept x (merged cmp kept xs) ys) →
          IsStrictlySortedBy cmp (by_order o (with_if kept.first x (merged cmp kept xs (y ∷ ys))) (with_if kept.both x (merged cmp kept xs ys))
          (with_if kept.second y (merged_first cmp kept x (merged cmp kept xs) ys)))
      by Less e on = sorted_with_if cmp kept.first x (merged cmp kept xs (y ∷ ys))
          (above_merged kept x xs (y ∷ ys) (head_below cmp x xs s) (above_cons x y ys e (head_below cmp y ys t))) (again (y ∷ ys) t)
      by Equal e on =
          let f : x ≡ y = exact x y e in
          sorted_with_if cmp kept.both x (merged cmp kept xs ys) (above_merged kept x xs ys (head_below cmp x xs s)
          (subst (λ (z : K). IsAbove cmp z ys) (sym f) (head_below cmp y ys t))) (again ys (sorted_tail cmp y ys t))
      by Greater e on =
          let f : cmp y x ≡ Less = total.antisymm y x ∙ ap ordering_reverse e in
          sorted_with_if cmp kept.second y (merged_first cmp kept x (merged cmp kept xs) ys)
          (above_merged kept y (x ∷ xs) ys (above_cons y x xs f (head_below cmp x xs s)) (head_below cmp y ys t)) on

  pub sorted-merged : (kept : KeptKeys) (xs ys : List K) → IsStrictlySortedBy cmp xs → IsStrictlySortedBy cmp ys → IsStrictlySortedBy cmp (merged cmp kept xs ys)
  sorted-merged kept [] ys s t = sorted_all_if cmp kept.second ys t
  sorted-merged kept (x ∷ xs) ys s t = sorted_first kept x xs ys s t (λ zs u. sorted-merged kept xs zs (sorted_tail cmp x xs s) u)

  same_or_not : (k x : K) → (k ≡ x) ⊎ (k ≢ x)
  same_or_not k x = by (cmp k x) refl
    where
      by : (o : Ordering) → cmp k x ≡ o → (k ≡ x) ⊎ (k ≢ x)
      by Less e = inr (λ f. let g : cmp k x ≡ Equal = subst (λ (y : K). cmp k y ≡ Equal) f (tied_itself total k) in let z : Less ≡ Equal = sym e ∙ g in cc)
      by Equal e = inl (exact k x e)
      by Greater e = inr (λ f. let g : cmp k x ≡ Equal = subst (λ (y : K). cmp k y ≡ Equal) f (tied_itself total k) in let z : Greater ≡ Equal = sym e ∙ g in
          cc)

  pub not_above_itself : (x : K) (xs : List K) → IsAbove cmp x xs → Contains xs x → ⊥
  not_above_itself x xs h m = let e : cmp x x ≡ Equal = tied_itself total x in let z : Less ≡ Equal = sym (h x m) ∙ e in cc

lifted : {K : Type 0} (kept : KeptKeys) (xs ys xs' ys' : List K) (k : K) → Contains xs k ↔ Contains xs' k → Contains ys k ↔ Contains ys' k → IsKept kept xs ys k →
    IsKept kept xs' ys' k
lifted kept xs ys xs' ys' k f g (in_first e a b) = in_first e (f.0 a) (λ m. b (g.1 m))
lifted kept xs ys xs' ys' k f g (in_both e a b) = in_both e (f.0 a) (g.0 b)
lifted kept xs ys xs' ys' k f g (in_second e a b) = in_second e (λ m. a (f.1 m)) (g.0 b)

back_and_forth : {A B C D : Type 0} → A ↔ B → B ↔ C → C ↔ D → A ↔ D
back_and_forth f g h = (λ a. h.0 (g.0 (f.0 a)), λ d. f.1 (g.1 (h.1 d)))

with_other : {K : Type 0} (b : Bool) (x : K) (zs : List K) (k : K) → k ≢ x → Contains (with_if b x zs) k ↔ Contains zs k
with_other true x zs k n = let h = one_less x zs k n in (h.1, h.0)
with_other false x zs k n = (λ m. m, λ m. m)

with_itself : {K : Type 0} (b : Bool) (x : K) (zs : List K) (k : K) → k ≡ x → (Contains zs x → ⊥) → Contains (with_if b x zs) k ↔ (b ≡ true)
with_itself true x zs k e n = (λ m. refl, λ f. first_contains x zs k e)
with_itself false x zs k e n = (λ m. absurd (n (subst (λ y. Contains zs y) e m)), λ f. absurd (cc))

unchanged : {K : Type 0} (xs : List K) (k : K) → Contains xs k ↔ Contains xs k
unchanged xs k = (λ m. m, λ m. m)

first_only : {K : Type 0} (kept : KeptKeys) (xs ys : List K) (k : K) → Contains xs k → (Contains ys k → ⊥) → (kept.first ≡ true) ↔ IsKept kept xs ys k
first_only {K = K} kept xs ys k a n = (λ e. in_first e a n, back)
  where
    back : IsKept kept xs ys k → kept.first ≡ true
    back (in_first e _ _) = e
    back (in_both _ _ b) = absurd (n b)
    back (in_second _ _ b) = absurd (n b)

both_only : {K : Type 0} (kept : KeptKeys) (xs ys : List K) (k : K) → Contains xs k → Contains ys k → (kept.both ≡ true) ↔ IsKept kept xs ys k
both_only {K = K} kept xs ys k a b = (λ e. in_both e a b, back)
  where
    back : IsKept kept xs ys k → kept.both ≡ true
    back (in_first _ _ n) = absurd (n b)
    back (in_both e _ _) = e
    back (in_second _ n _) = absurd (n a)

second_only : {K : Type 0} (kept : KeptKeys) (xs ys : List K) (k : K) → (Contains xs k → ⊥) → Contains ys k → (kept.second ≡ true) ↔ IsKept kept xs ys k
second_only {K = K} kept xs ys k n b = (λ e. in_second e n b, back)
  where
    back : IsKept kept xs ys k → kept.second ≡ true
    back (in_first _ a _) = absurd (n a)
    back (in_both _ a _) = absurd (n a)
    back (in_second e _ _) = e

two_steps : {A B C : Type 0} → A ↔ B → B ↔ C → A ↔ C
two_steps f g = (λ a. g.0 (f.0 a), λ c. f.1 (g.1 c))

moved_to : {K : Type 0} (x y : K) (zs : List K) → y ≡ x → (Contains zs x → ⊥) → Contains zs y → ⊥
moved_to x y zs e n m = n (subst (λ z. Contains zs z) e m)

module _ {K : Type 0} (cmp : K → K → Ordering) (total : IsTotalOrder cmp) (exact : IsAntisymmetric cmp) where
  members_first : (kept : KeptKeys) (x : K) (xs ys : List K) (k : K) → IsStrictlySortedBy cmp (x ∷ xs) → IsStrictlySortedBy cmp ys →
      ((zs : List K) → IsStrictlySortedBy cmp zs → Contains (merged cmp kept xs zs) k ↔ IsKept kept xs zs k) →
      Contains (merged_first cmp kept x (merged cmp kept xs) ys) k ↔ IsKept kept (x ∷ xs) ys k
  members_first kept x xs [] k s t again = by (same_or_not cmp total exact k x)
    where
      above : IsAbove cmp x (merged cmp kept xs [])
      above = above_merged cmp total exact kept x xs [] (head_below cmp x xs s) (λ j m. absurd (omega (arith, m.1)))

      by : (k ≡ x) ⊎ (k ≢ x) → Contains (with_if kept.first x (merged cmp kept xs [])) k ↔ IsKept kept (x ∷ xs) [] k
      by (inl e) = two_steps (with_itself kept.first x (merged cmp kept xs []) k e (not_above_itself cmp total exact x (merged cmp kept xs []) above))
          (first_only kept (x ∷ xs) [] k (first_contains x xs k e) (λ m. absurd (omega (arith, m.1))))
      by (inr n) = back_and_forth (with_other kept.first x (merged cmp kept xs []) k n) (again [] t) (
        lifted kept xs [] (x ∷ xs) [] k (one_less x xs k n) (unchanged [] k),
        lifted kept (x ∷ xs) [] xs [] k (let h = one_less x xs k n in (h.1, h.0)) (unchanged [] k),
      )
  members_first kept x xs (y ∷ ys) k s t again = by (cmp x y) refl (members_first kept x xs ys k s (sorted_tail cmp y ys t) again)
      (same_or_not cmp total exact k x) (same_or_not cmp total exact k y)
    where
      below_x : IsAbove cmp x xs
      below_x = head_below cmp x xs s

      below_y : IsAbove cmp y ys
      below_y = head_below cmp y ys t

      by : (o : Ordering) → cmp x y ≡ o → Contains (merged_first cmp kept x (merged cmp kept xs) ys) k ↔ IsKept kept (x ∷ xs) ys k → (k ≡ x) ⊎ (k ≢ x) →
          (k ≡ y) ⊎ (k ≢ y) →
          Contains (by_order o (with_if kept.first x (merged cmp kept xs (y ∷ ys))) (with_if kept.both x (merged cmp kept xs ys))
          (with_if kept.second y (merged_first cmp kept x (merged cmp kept xs) ys))) k ↔ IsKept kept (x ∷ xs) (y ∷ ys) k
      by Less e on (inl f) c =
          let a : IsAbove cmp x (y ∷ ys) = above_cons cmp total exact x y ys e below_y in
          two_steps (with_itself kept.first x (merged cmp kept xs (y ∷ ys)) k f
          (not_above_itself cmp total exact x (merged cmp kept xs (y ∷ ys)) (above_merged cmp total exact kept x xs (y ∷ ys) below_x a)))
          (first_only kept (x ∷ xs) (y ∷ ys) k (first_contains x xs k f) (moved_to x k (y ∷ ys) f (not_above_itself cmp total exact x (y ∷ ys) a)))
      by Less e on (inr n) c =
          let h = one_less x xs k n in
          back_and_forth (with_other kept.first x (merged cmp kept xs (y ∷ ys)) k n) (again (y ∷ ys) t) (
            lifted kept xs (y ∷ ys) (x ∷ xs) (y ∷ ys) k h (unchanged (y ∷ ys) k),
            lifted kept (x ∷ xs) (y ∷ ys) xs (y ∷ ys) k (h.1, h.0) (unchanged (y ∷ ys) k),
          )
      by Equal e on (inl f) c =
          let d : x ≡ y = exact x y e in
          let a : IsAbove cmp x ys = subst (λ (z : K). IsAbove cmp z ys) (sym d) below_y in
          two_steps (with_itself kept.both x (merged cmp kept xs ys) k f
          (not_above_itself cmp total exact x (merged cmp kept xs ys) (above_merged cmp total exact kept x xs ys below_x a)))
          (both_only kept (x ∷ xs) (y ∷ ys) k (first_contains x xs k f) (first_contains y ys k (f ∙ d)))
      by Equal e on (inr n) (inl f) = absurd (n (f ∙ sym (exact x y e)))
      by Equal e on (inr n) (inr n2) =
          let h = one_less x xs k n in
          let j = one_less y ys k n2 in
          back_and_forth (with_other kept.both x (merged cmp kept xs ys) k n) (again ys (sorted_tail cmp y ys t))
          (lifted kept xs ys (x ∷ xs) (y ∷ ys) k h j, lifted kept (x ∷ xs) (y ∷ ys) xs ys k (h.1, h.0) (j.1, j.0))
      by Greater e on b (inl f) =
          let g : cmp y x ≡ Less = total.antisymm y x ∙ ap ordering_reverse e in
          let a : IsAbove cmp y (x ∷ xs) = above_cons cmp total exact y x xs g below_x in
          two_steps (with_itself kept.second y (merged cmp kept (x ∷ xs) ys) k f
          (not_above_itself cmp total exact y (merged cmp kept (x ∷ xs) ys) (above_merged cmp total exact kept y (x ∷ xs) ys a below_y)))
          (second_only kept (x ∷ xs) (y ∷ ys) k (moved_to y k (x ∷ xs) f (not_above_itself cmp total exact y (x ∷ xs) a)) (first_contains y ys k f))
      by Greater e on b (inr n) =
          let j = one_less y ys k n in
          back_and_forth (with_other kept.second y (merged cmp kept (x ∷ xs) ys) k n) on (
            lifted kept (x ∷ xs) ys (x ∷ xs) (y ∷ ys) k (unchanged (x ∷ xs) k) j,
            lifted kept (x ∷ xs) (y ∷ ys) (x ∷ xs) ys k (unchanged (x ∷ xs) k) (j.1, j.0),
          )

  all_or_none : (kept : KeptKeys) (b : Bool) (ys : List K) (k : K) → kept.second ≡ b → Contains (all_if b ys) k ↔ IsKept kept [] ys k
  all_or_none kept true ys k e = (λ m. in_second e (λ n. absurd (omega (arith, n.1))) m, back)
    where
      back : IsKept kept [] ys k → Contains ys k
      back (in_first _ a _) = absurd (omega (arith, a.1))
      back (in_both _ _ b) = b
      back (in_second _ _ b) = b
  all_or_none kept false ys k e = (λ m. absurd (omega (arith, m.1)), back)
    where
      back : IsKept kept [] ys k → Contains [] k
      back (in_first _ a _) = absurd (omega (arith, a.1))
      back (in_both _ a _) = absurd (omega (arith, a.1))
      back (in_second f _ _) = let z : true ≡ false = sym f ∙ e in absurd (cc)

  -- a merge has exactly the keys that are kept
  pub members-merged : (kept : KeptKeys) (xs ys : List K) (k : K) → IsStrictlySortedBy cmp xs → IsStrictlySortedBy cmp ys → Contains (merged cmp kept xs ys) k ↔
      IsKept kept xs ys k
  members-merged kept [] ys k s t = all_or_none kept kept.second ys k refl
  members-merged kept (x ∷ xs) ys k s t = members_first kept x xs ys k s t (λ zs u. members-merged kept xs zs k (sorted_tail cmp x xs s) u)

  is_in_or_not : (xs : List K) (k : K) → Contains xs k ⊎ (Contains xs k → ⊥)
  is_in_or_not xs k = by (has cmp xs k) refl
    where
      by : (b : Bool) → has cmp xs k ≡ b → Contains xs k ⊎ (Contains xs k → ⊥)
      by true e = inl (Contains-has cmp total exact xs k e)
      by false e = inr (λ m. let f : has cmp xs k ≡ true = has_at cmp total exact xs k m.0 m.1 m.2 in let z : true ≡ false = sym f ∙ e in cc)

  pub kept_union : (xs ys : List K) (k : K) → IsKept (record { first = true; both = true; second = true }) xs ys k ↔ (Contains xs k ⊎ Contains ys k)
  kept_union xs ys k = (forth, back (is_in_or_not xs k) (is_in_or_not ys k))
    where
      forth : IsKept (record { first = true; both = true; second = true }) xs ys k → Contains xs k ⊎ Contains ys k
      forth (in_first _ a _) = inl a
      forth (in_both _ a _) = inl a
      forth (in_second _ _ b) = inr b

      back : Contains xs k ⊎ (Contains xs k → ⊥) → Contains ys k ⊎ (Contains ys k → ⊥) → Contains xs k ⊎ Contains ys k →
          IsKept (record { first = true; both = true; second = true }) xs ys k
      back (inl a) (inl b) h = in_both refl a b
      back (inl a) (inr b) h = in_first refl a b
      back (inr a) (inl b) h = in_second refl a b
      back (inr a) (inr b) (inl h) = absurd (a h)
      back (inr a) (inr b) (inr h) = absurd (b h)

  pub kept_intersection : (xs ys : List K) (k : K) → IsKept (record { first = false; both = true; second = false }) xs ys k ↔ (Contains xs k × Contains ys k)
  kept_intersection xs ys k = (forth, λ h. in_both refl h.0 h.1)
    where
      forth : IsKept (record { first = false; both = true; second = false }) xs ys k → Contains xs k × Contains ys k
      forth (in_first e _ _) = absurd (cc)
      forth (in_both _ a b) = (a, b)
      forth (in_second e _ _) = absurd (cc)

  pub kept_difference : (xs ys : List K) (k : K) → IsKept (record { first = true; both = false; second = false }) xs ys k ↔
      (Contains xs k × (¬ (Contains ys k)))
  kept_difference xs ys k = (forth, λ h. in_first refl h.0 h.1)
    where
      forth : IsKept (record { first = true; both = false; second = false }) xs ys k → Contains xs k × (¬ (Contains ys k))
      forth (in_first _ a b) = (a, b)
      forth (in_both e _ _) = absurd (cc)
      forth (in_second e _ _) = absurd (cc)

  pub kept_symmetric : (xs ys : List K) (k : K) → IsKept (record { first = true; both = false; second = true }) xs ys k ↔
      ((Contains xs k × (¬ (Contains ys k))) ⊎ ((¬ (Contains xs k)) × Contains ys k))
  kept_symmetric xs ys k = (forth, back)
    where
      forth : IsKept (record { first = true; both = false; second = true }) xs ys k → (Contains xs k × (¬ (Contains ys k))) ⊎
          ((¬ (Contains xs k)) × Contains ys k)
      forth (in_first _ a b) = inl (a, b)
      forth (in_both e _ _) = absurd (cc)
      forth (in_second _ a b) = inr (a, b)

      back : (Contains xs k × (¬ (Contains ys k))) ⊎ ((¬ (Contains xs k)) × Contains ys k) →
          IsKept (record { first = true; both = false; second = true }) xs ys k
      back (inl h) = in_first refl h.0 h.1
      back (inr h) = in_second refl h.0 h.1

pub on_ok : {A E : Type 0} (r : Result A E) (P Q : A → Type 0) → ((x : A) → P x → Q x) → IfOk r P → IfOk r Q
on_ok (Ok x) P Q f h = f x h
on_ok (Err e) P Q f h = h

-- each key passes a test of the first list's exactly where it passes the second's
pub same_keys : {K : Type 0} (E : Type 0) (r : Result (List K) E) (P Q : K → Type 0) → ((k : K) → P k ↔ Q k) → IfOk r (λ xs. (k : K) → Contains xs k ↔ P k) →
    IfOk r (λ xs. (k : K) → Contains xs k ↔ Q k)
same_keys {K = K} E r P Q f h = on_ok r (λ xs. (k : K) → Contains xs k ↔ P k) (λ xs. (k : K) → Contains xs k ↔ Q k) (λ xs g k. two_steps (g k) (f k)) h
