-- keys in ascending order
use Rattle.std.proofs.Common.{◌≡◌, ◌≢◌, ◌↔◌, ◌⊎◌, inl, inr, ℕ, ◌+◌, ◌-◌, ◌<◌, ◌≤◌, List, ◌∷◌, ◌++◌, Option, Some, Result, Ok, Err, length, slice_get, get_or}
use Rattle.std.proofs.Common.{take, drop, refl, sym, ap, subst, ◌∙◌, arith}
use Rattle.std.specs.declared.cmp.Ordering.{Ordering}
use Rattle.std.specs.declared.cmp.Ordering.TheVariants.{Less, Equal, Greater}
use Rattle.std.specs.Ordering.{ordering_index, ordering_reverse}
use Rattle.std.specs.Cmp.{IsTotalOrder}
use Rattle.std.specs.FinMap.{IsAntisymmetric}
use Rattle.std.specs.List.{Contains, insert, remove}
use Rattle.std.specs.List.Sorted.{IsStrictlySortedBy, IsNonDecreasingBy, IsBinarySearchResult, IsPartitionPoint, IsSearchInRange}
use Rattle.std.proofs.lemmas.Cmp.{tied_itself, alike_right}
use Rattle.std.proofs.lemmas.List.{take-append-drop}
use Rattle.std.proofs.lemmas.List.Elements.{Contains-append_left, Contains-append_right, Contains-append_cases}
use Rattle.std.proofs.lemmas.Bool.{cases_lt}
use Rattle.std.proofs.lemmas.List.Edits.{length-insert, get_or-insert_below, get_or-insert_at, get_or-insert_above, length-remove, get_or-remove_below}
use Rattle.std.proofs.lemmas.List.Edits.{get_or-remove_above}
use Rattle.std.proofs.lemmas.Map.Keys.{Less-from_sorted, sorted_from_all_adjacent}
use Rattle.std.proofs.lemmas.Option.{none-some, same_Some, slice_get_within, get_or_from_slice_get, slice_get-get_or}
use Rattle.std.specs.Result.{result_ok, IfOk, IfErr}
use Rattle.wb_range.specs.Domain.{IsListedOnce}
use Rattle.wb_sets.specs.Places.{IsGap}
use Rattle.wb_sets.proofs.Members.{contains_cons, cons_contains}

module _ {K : Type 0} (cmp : K → K → Ordering) (total : IsTotalOrder cmp) (exact : IsAntisymmetric cmp) where
  not_below_itself : (x : K) → cmp x x ≡ Less → ⊥
  not_below_itself x e = let f : cmp x x ≡ Equal = tied_itself total x in let g : Less ≡ Equal = sym e ∙ f in cc

  -- the places of one key are one place
  same_place : (xs : List K) → IsStrictlySortedBy cmp xs → (p q : ℕ) (x : K) → slice_get xs p ≡ Some x → slice_get xs q ≡ Some x → p < q → ⊥
  same_place xs s p q x e f l =
      let h : cmp (get_or xs p x) (get_or xs q x) ≡ Less = Less-from_sorted cmp xs p q x s l (slice_get_within xs q x f) in
      let a : get_or xs p x ≡ x = get_or_from_slice_get xs p x x e in
      let b : get_or xs q x ≡ x = get_or_from_slice_get xs q x x f in
      not_below_itself x (rw (a, b) at h)

  pub IsListedOnce-sorted : (xs : List K) → IsStrictlySortedBy cmp xs → IsListedOnce xs
  IsListedOnce-sorted xs s p q x e f = by (cases_lt p q) (cases_lt q p)
    where
      by : (p < q) ⊎ (q ≤ p) → (q < p) ⊎ (p ≤ q) → p ≡ q
      by (inl l) _ = absurd (same_place xs s p q x e f l)
      by (inr l) (inl m) = absurd (same_place xs s q p x f e m)
      by (inr l) (inr m) = omega arith

  less-reversed : (x y : K) → cmp x y ≡ Less → cmp y x ≡ Greater
  less-reversed x y e = total.antisymm y x ∙ ap ordering_reverse e

  -- before the key that is searched, at it, and past it
  rank_rises : (xs : List K) (key : K) → IsStrictlySortedBy cmp xs → IsNonDecreasingBy (λ y. ordering_index (cmp y key)) xs
  rank_rises xs key s i j d l m = by (cases_lt i j)
    where
      rise : (x y : K) (a b : Ordering) → cmp x y ≡ Less → cmp x key ≡ a → cmp y key ≡ b → ordering_index a ≤ ordering_index b
      rise x y Less b h e f = omega arith
      rise x y Equal Less h e f =
          let g : cmp x y ≡ cmp key y = total.congr x key y e in
          let r : cmp key y ≡ Greater = less-reversed y key f in
          let z : Less ≡ Greater = sym h ∙ g ∙ r in
          cc
      rise x y Equal Equal h e f = omega arith
      rise x y Equal Greater h e f = omega arith
      rise x y Greater Less h e f =
          let g : cmp x key ≡ Less = total.trans x y key h f in
          let z : Less ≡ Greater = sym g ∙ e in
          cc
      rise x y Greater Equal h e f =
          let g : cmp x y ≡ cmp x key = alike_right total y key x f in
          let z : Less ≡ Greater = sym h ∙ g ∙ e in
          cc
      rise x y Greater Greater h e f = omega arith

      by : (i < j) ⊎ (j ≤ i) → ordering_index (cmp (get_or xs i d) key) ≤ ordering_index (cmp (get_or xs j d) key)
      by (inl h) = rise (get_or xs i d) (get_or xs j d) _ _ (Less-from_sorted cmp xs i j d s h m) refl refl
      by (inr h) = let e : i ≡ j = omega arith in subst (λ (k : ℕ). ordering_index (cmp (get_or xs i d) key) ≤ ordering_index (cmp (get_or xs k d) key)) e
          (omega arith)

  pub gap_found : (xs : List K) (key : K) (q : ℕ) → IsStrictlySortedBy cmp xs → q ≤ length xs →
      (IsNonDecreasingBy (λ y. ordering_index (cmp y key)) xs → IsPartitionPoint (λ y. cmp y key ≡ Less) (λ y. cmp y key ≡ Greater) xs q) → IsGap cmp xs key q
  gap_found xs key q s l h = let p = h (rank_rises xs key s) in record { within = l; below = p.0; above = p.1 }

  pub not_there : (xs : List K) (key : K) (q : ℕ) → IsGap cmp xs key q → Contains xs key → ⊥
  not_there xs key q h m = by (cases_lt m.0 q)
    where
      by : (m.0 < q) ⊎ (q ≤ m.0) → ⊥
      by (inl l) = not_below_itself key (rw m.2 at (h.below m.0 key (omega arith) l))
      by (inr l) = let f : cmp key key ≡ Equal = tied_itself total key in let g : cmp key key ≡ Greater = rw m.2 at (h.above m.0 key l m.1) in
          let z : Equal ≡ Greater = sym f ∙ g in cc

  above_key : (y key : K) → cmp y key ≡ Greater → cmp key y ≡ Less
  above_key y key e = total.antisymm key y ∙ ap ordering_reverse e

  pub sorted-insert : (xs : List K) (key : K) (q : ℕ) → IsStrictlySortedBy cmp xs → IsGap cmp xs key q → IsStrictlySortedBy cmp (insert xs q key)
  sorted-insert xs key q s h = sorted_from_all_adjacent total (insert xs q key) key
      (λ k l. by k (omega (arith, l, length-insert xs q key h.within)) (cases_lt (k + 1) q) (cases_lt k q) (cases_lt q k))
    where
      by : (k : ℕ) → k < length xs → (k + 1 < q) ⊎ (q ≤ k + 1) → (k < q) ⊎ (q ≤ k) → (q < k) ⊎ (k ≤ q) →
          cmp (get_or (insert xs q key) k key) (get_or (insert xs q key) (k + 1) key) ≡ Less
      by k l (inl a) b c =
          rw (get_or-insert_below xs q key key k (omega arith) h.within, get_or-insert_below xs q key key (k + 1) a h.within)
          (Less-from_sorted cmp xs k (k + 1) key s (omega arith) (omega (arith, h.within)))
      by k l (inr a) (inl b) c =
          let e : k + 1 ≡ q = omega arith in
          let f : get_or (insert xs q key) (k + 1) key ≡ key = ap (λ (n : ℕ). get_or (insert xs q key) n key) e ∙ get_or-insert_at xs q key key h.within in
          rw (get_or-insert_below xs q key key k b h.within, f) (h.below k key (omega arith) b)
      by k l (inr a) (inr b) (inl c) =
          let e : k ≡ (k - 1) + 1 = omega arith in
          let f : get_or (insert xs q key) k key ≡ get_or xs (k - 1) key = ap (λ (n : ℕ). get_or (insert xs q key) n key) e ∙
          get_or-insert_above xs q key key (k - 1) (omega arith) h.within in
          rw (f, get_or-insert_above xs q key key k b h.within) (Less-from_sorted cmp xs (k - 1) k key s (omega arith) l)
      by k l (inr a) (inr b) (inr c) =
          let e : k ≡ q = omega arith in
          let f : get_or (insert xs q key) k key ≡ key = ap (λ (n : ℕ). get_or (insert xs q key) n key) e ∙ get_or-insert_at xs q key key h.within in
          rw (f, get_or-insert_above xs q key key k b h.within) (above_key (get_or xs k key) key (h.above k key b l))

  sorted-remove_at : (xs : List K) (key : K) (q : ℕ) → IsStrictlySortedBy cmp xs → q < length xs → IsStrictlySortedBy cmp (remove xs q)
  sorted-remove_at xs key q s h = sorted_from_all_adjacent total (remove xs q) key
      (λ k l. by k (omega (arith, l, length-remove xs q h)) (cases_lt (k + 1) q) (cases_lt k q))
    where
      by : (k : ℕ) → k + 2 < length xs → (k + 1 < q) ⊎ (q ≤ k + 1) → (k < q) ⊎ (q ≤ k) →
          cmp (get_or (remove xs q) k key) (get_or (remove xs q) (k + 1) key) ≡ Less
      by k l (inl a) b =
          rw (get_or-remove_below xs q key k (omega arith) h, get_or-remove_below xs q key (k + 1) a h)
          (Less-from_sorted cmp xs k (k + 1) key s (omega arith) (omega arith))
      by k l (inr a) (inl b) =
          rw (get_or-remove_below xs q key k b h, get_or-remove_above xs q key (k + 1) a h)
          (Less-from_sorted cmp xs k (k + 1 + 1) key s (omega arith) (omega arith))
      by k l (inr a) (inr b) =
          rw (get_or-remove_above xs q key k b h, get_or-remove_above xs q key (k + 1) a h)
          (Less-from_sorted cmp xs (k + 1) (k + 1 + 1) key s (omega arith) (omega arith))

  pub sorted-remove : (xs : List K) (key : K) (q : ℕ) → IsStrictlySortedBy cmp xs → slice_get xs q ≡ Some key → IsStrictlySortedBy cmp (remove xs q)
  sorted-remove xs key q s at_q = sorted-remove_at xs key q s (slice_get_within xs q key at_q)

  members-remove_at : (xs : List K) (key : K) (q : ℕ) → IsStrictlySortedBy cmp xs → q < length xs → slice_get xs q ≡ Some key → (k : K) →
      Contains (remove xs q) k ↔ (Contains xs k × (k ≢ key))
  members-remove_at xs key q s h at_q k = (
    λ m. (forth m (cases_lt m.0 q), λ f. once m f (cases_lt m.0 q)),
    λ m. back m.0 m.1 (cases_lt m.0.0 q) (cases_lt q m.0.0),
  )
    where
      shorter : length (remove xs q) + 1 ≡ length xs
      shorter = length-remove xs q h

      forth : (m : Contains (remove xs q) k) → (m.0 < q) ⊎ (q ≤ m.0) → Contains xs k
      forth m (inl l) = (m.0, omega (arith, m.1, shorter), sym (get_or-remove_below xs q k m.0 l h) ∙ m.2)
      forth m (inr l) = (m.0 + 1, omega (arith, m.1, shorter), sym (get_or-remove_above xs q k m.0 l h) ∙ m.2)

      once : (m : Contains (remove xs q) k) → k ≡ key → (m.0 < q) ⊎ (q ≤ m.0) → ⊥
      once m f (inl l) =
          let a : slice_get xs m.0 ≡ Some key = slice_get-get_or xs m.0 k (omega (arith, m.1, shorter)) ∙
          ap (λ z. Some z) (sym (get_or-remove_below xs q k m.0 l h) ∙ m.2 ∙ f) in
          let b : m.0 ≡ q = IsListedOnce-sorted xs s m.0 q key a at_q in
          omega arith
      once m f (inr l) =
          let a : slice_get xs (m.0 + 1) ≡ Some key = slice_get-get_or xs (m.0 + 1) k (omega (arith, m.1, shorter)) ∙
          ap (λ z. Some z) (sym (get_or-remove_above xs q k m.0 l h) ∙ m.2 ∙ f) in
          let b : m.0 + 1 ≡ q = IsListedOnce-sorted xs s (m.0 + 1) q key a at_q in
          omega arith

      back : (m : Contains xs k) → k ≢ key → (m.0 < q) ⊎ (q ≤ m.0) → (q < m.0) ⊎ (m.0 ≤ q) → Contains (remove xs q) k
      back m n (inl l) c = (m.0, omega (arith, m.1, shorter), get_or-remove_below xs q k m.0 l h ∙ m.2)
      back m n (inr l) (inl c) =
          let a : (m.0 - 1) + 1 ≡ m.0 = omega arith in
          (m.0 - 1, omega (arith, m.1, shorter), get_or-remove_above xs q k (m.0 - 1) (omega arith) h ∙ ap (λ (i : ℕ). get_or xs i k) a ∙ m.2)
      back m n (inr l) (inr c) =
          let a : m.0 ≡ q = omega arith in
          let b : slice_get xs q ≡ Some k = ap (λ (i : ℕ). slice_get xs i) (sym a) ∙ slice_get-get_or xs m.0 k m.1 ∙ ap (λ z. Some z) m.2 in
          absurd (n (same_Some _ _ (sym b ∙ at_q)))

  pub members-remove : (xs : List K) (key : K) (q : ℕ) → IsStrictlySortedBy cmp xs → slice_get xs q ≡ Some key → (k : K) → Contains (remove xs q) k ↔
      (Contains xs k × (k ≢ key))
  members-remove xs key q s at_q = members-remove_at xs key q s (slice_get_within xs q key at_q) at_q

  -- what a binary search finds
  pub found_by : (xs : List K) (key : K) (r : Result ℕ ℕ) → IsSearchInRange r (length xs) → IsBinarySearchResult (λ y. cmp y key) xs r →
      IfOk r (λ p. slice_get xs p ≡ Some key)
  found_by xs key (Ok q) l h = slice_get-get_or xs q key l ∙ ap (λ z. Some z) (exact _ _ (h key))
  found_by xs key (Err q) l h = tt

  pub gap_by : (xs : List K) (key : K) (r : Result ℕ ℕ) → IsStrictlySortedBy cmp xs → IsSearchInRange r (length xs) →
      IsBinarySearchResult (λ y. cmp y key) xs r → IfErr r (λ p. IsGap cmp xs key p)
  gap_by xs key (Ok q) s l h = tt
  gap_by xs key (Err q) s l h = gap_found xs key q s l h

  pub place_found : (xs : List K) (key : K) (r : Result ℕ ℕ) (o : Option ℕ) → o ≡ result_ok r → IsStrictlySortedBy cmp xs →
      IfOk r (λ p. slice_get xs p ≡ Some key) → IfErr r (λ p. IsGap cmp xs key p) → (p : ℕ) → (o ≡ Some p) ↔ (slice_get xs p ≡ Some key)
  place_found xs key (Ok q) o w s a h p = (
    λ e. let f : q ≡ p = same_Some _ _ (sym w ∙ e) in subst (λ (n : ℕ). slice_get xs n ≡ Some key) f a,
    λ e. w ∙ ap (λ z. Some z) (IsListedOnce-sorted xs s q p key a e),
  )
  place_found xs key (Err q) o w s a h p = (
    λ e. absurd (none-some _ (sym w ∙ e)),
    λ e. absurd (not_there xs key q h (p, slice_get_within xs p key e, get_or_from_slice_get xs p key key e)),
  )

  -- a removal doesn't need to change a set without the key
  pub members-absent : (xs : List K) (key : K) (q : ℕ) → IsGap cmp xs key q → (k : K) → Contains xs k ↔ (Contains xs k × (k ≢ key))
  members-absent xs key q h k = (λ m. (m, λ e. not_there xs key q h (subst (λ (x : K). Contains xs x) e m)), λ m. m.0)

pub members-insert : {X : Type 0} (xs : List X) (key : X) (q : ℕ) (k : X) → Contains (insert xs q key) k ↔ (Contains xs k ⊎ (k ≡ key))
members-insert {X} xs key q k = (λ m. forth (Contains-append_cases (take q xs) (key ∷ drop q xs) k m), back)
  where
    whole : take q xs ++ drop q xs ≡ xs
    whole = take-append-drop q xs

    last : (k ≡ key) ⊎ Contains (drop q xs) k → Contains xs k ⊎ (k ≡ key)
    last (inl e) = inr e
    last (inr m) = inl (subst (λ (ys : List X). Contains ys k) whole (Contains-append_right (take q xs) (drop q xs) k m))

    forth : Contains (take q xs) k ⊎ Contains (key ∷ drop q xs) k → Contains xs k ⊎ (k ≡ key)
    forth (inl m) = inl (subst (λ (ys : List X). Contains ys k) whole (Contains-append_left (take q xs) (drop q xs) k m))
    forth (inr m) = last (contains_cons key (drop q xs) k m.0 m.1 m.2)

    part : Contains (take q xs) k ⊎ Contains (drop q xs) k → Contains (insert xs q key) k
    part (inl m) = Contains-append_left (take q xs) (key ∷ drop q xs) k m
    part (inr m) = Contains-append_right (take q xs) (key ∷ drop q xs) k (cons_contains key (drop q xs) k m)

    back : Contains xs k ⊎ (k ≡ key) → Contains (insert xs q key) k
    back (inl m) = part (Contains-append_cases (take q xs) (drop q xs) k (subst (λ (ys : List X). Contains ys k) (sym whole) m))
    back (inr e) = Contains-append_right (take q xs) (key ∷ drop q xs) k (0, omega arith, sym e)
