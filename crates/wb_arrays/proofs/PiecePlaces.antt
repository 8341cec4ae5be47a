-- What a search finds among ascending pairs.
use Rattle.std.proofs.Common.{◌≡◌, ◌⊎◌, inl, inr, ℕ, zero, suc, ◌<◌, ◌≤◌, ℤ, true, false, List, [], ◌∷◌, length, get_or, set, Option, Some, None, Result, Ok}
use Rattle.std.proofs.Common.{Err, IfSome, IfNone, refl, sym, ap, subst, ◌∙◌, arith}
use Rattle.std.specs.declared.cmp.Ordering.{Ordering}
use Rattle.std.specs.declared.cmp.Ordering.TheVariants.{Less, Equal, Greater}
use Rattle.std.specs.Ordering.{is_eq, ordering_index, ordering_reverse}
use Rattle.std.specs.Cmp.{IsTotalOrder, eq_by_cmp_equiv}
use Rattle.std.specs.FinMap.{IsAntisymmetric}
use Rattle.std.specs.List.Sorted.{IsStrictlySortedBy, IsNonDecreasingBy, IsBinarySearchResult, IsPartitionPoint, IsSearchInRange}
use Rattle.std.specs.Map.{keys_of, set_value}
use Rattle.std.specs.BTreeMap.{is_at}
use Rattle.std.specs.Result.{result_ok}
use Rattle.std.proofs.lemmas.Bool.{cases_lt}
use Rattle.std.proofs.lemmas.Cmp.{tied_itself, alike_right}
use Rattle.std.proofs.lemmas.List.{get_or-map}
use Rattle.std.proofs.lemmas.Map.Keys.{Less-from_sorted, sorted_tail}
use Rattle.wb_arrays.specs.Elements.{value_at}

module _ {K : Type 0} (cmp : K → K → Ordering) (total : IsTotalOrder cmp) (exact : IsAntisymmetric cmp) where
  less-reversed : (x y : K) → cmp x y ≡ Less → cmp y x ≡ Greater
  less-reversed x y e = total.antisymm y x ∙ ap ordering_reverse e

  rise : (key x y : K) (a b : Ordering) → cmp x y ≡ Less → cmp x key ≡ a → cmp y key ≡ b → ordering_index a ≤ ordering_index b
  rise key x y Less b h e f = omega arith
  rise key x y Equal Less h e f =
      let g : cmp x y ≡ cmp key y = total.congr x key y e in
      let r : cmp key y ≡ Greater = less-reversed y key f in
      let z : Less ≡ Greater = sym h ∙ g ∙ r in
      cc
  rise key x y Equal Equal h e f = omega arith
  rise key x y Equal Greater h e f = omega arith
  rise key x y Greater Less h e f =
      let g : cmp x key ≡ Less = total.trans x y key h f in
      let z : Less ≡ Greater = sym g ∙ e in
      cc
  rise key x y Greater Equal h e f =
      let g : cmp x y ≡ cmp x key = alike_right total y key x f in
      let z : Less ≡ Greater = sym h ∙ g ∙ e in
      cc
  rise key x y Greater Greater h e f = omega arith

  -- before the index that is searched, at it, and past it
  rank_rises : (es : List (K × ℤ)) (key : K) → IsStrictlySortedBy cmp (keys_of es) → IsNonDecreasingBy (λ e. ordering_index (cmp e.0 key)) es
  rank_rises es key s i j d l m = by (cases_lt i j)
    where
      key_at : (k : ℕ) → k < length es → get_or (keys_of es) k d.0 ≡ (get_or es k d).0
      key_at k h = get_or-map (λ (e : K × ℤ). e.0) es k d d.0 h

      by : (i < j) ⊎ (j ≤ i) → ordering_index (cmp (get_or es i d).0 key) ≤ ordering_index (cmp (get_or es j d).0 key)
      by (inl h) = rise key (get_or es i d).0 (get_or es j d).0 _ _
          (rw (← key_at i (omega arith), ← key_at j m) (Less-from_sorted cmp (keys_of es) i j d.0 s h (omega (arith, keys_len es)))) refl refl
        where
          keys_len : (xs : List (K × ℤ)) → length (keys_of xs) ≡ length xs
          keys_len [] = refl
          keys_len (x ∷ xs) = omega (arith, keys_len xs)
      by (inr h) = let e : i ≡ j = omega arith in subst (λ (k : ℕ). ordering_index (cmp (get_or es i d).0 key) ≤ ordering_index (cmp (get_or es k d).0 key)) e
          (omega arith)

  none_there : (es : List (K × ℤ)) (key : K) → ((k : ℕ) (d : K × ℤ) → k < length es → is_eq (cmp (get_or es k d).0 key) ≡ false) → value_at cmp es key ≡ None
  none_there [] key h = refl
  none_there (e ∷ es) key h = rw ((eq_by_cmp_equiv total).symm key e.0, h 0 e (omega arith)) (none_there es key (λ k d l. h (suc k) d (omega arith)))

  -- what a search says of the place
  pub found : (es : List (K × ℤ)) (key : K) (r : Result ℕ ℕ) (o : Option ℕ) → o ≡ result_ok r → IsSearchInRange r (length es) →
      IsBinarySearchResult (λ e. cmp e.0 key) es r → IfSome o (λ p. (p < length es) × ((d : K × ℤ) → (get_or es p d).0 ≡ key))
  found es key (Ok p) o w l h = rw w (l, λ d. exact _ key (h d))
  found es key (Err p) o w l h = rw w tt

  pub absent : (es : List (K × ℤ)) (key : K) (r : Result ℕ ℕ) (o : Option ℕ) → o ≡ result_ok r → IsStrictlySortedBy cmp (keys_of es) →
      IsSearchInRange r (length es) → IsBinarySearchResult (λ e. cmp e.0 key) es r → IfNone o (value_at cmp es key ≡ None)
  absent es key (Ok p) o w s l h = rw w tt
  absent es key (Err p) o w s l h = rw w (none_there es key (λ k d m. by k d m (cases_lt k p)))
    where
      part : IsPartitionPoint (λ e. cmp e.0 key ≡ Less) (λ e. cmp e.0 key ≡ Greater) es p
      part = h (rank_rises es key s)

      by : (k : ℕ) (d : K × ℤ) → k < length es → (k < p) ⊎ (p ≤ k) → is_eq (cmp (get_or es k d).0 key) ≡ false
      by k d m (inl g) = ap is_eq (part.0 k d (omega arith) g)
      by k d m (inr g) = ap is_eq (part.1 k d g m)

  itself : (x y : K) → x ≡ y → is_eq (cmp y x) ≡ true
  itself x y e = subst (λ (z : K). is_eq (cmp z x) ≡ true) e (ap is_eq (tied_itself total x))

  -- an index that stands before another one isn't that one
  apart : (e : K × ℤ) (es : List (K × ℤ)) (p : ℕ) (key : K) → IsStrictlySortedBy cmp (keys_of (e ∷ es)) → p < length es →
      ((d : K × ℤ) → (get_or es p d).0 ≡ key) → is_eq (cmp key e.0) ≡ false
  apart e es p key s l h =
      let at : get_or (keys_of es) p e.0 ≡ key = get_or-map (λ (x : K × ℤ). x.0) es p e e.0 l ∙ h e in
      let below : cmp e.0 (get_or (keys_of es) p e.0) ≡ Less = Less-from_sorted cmp (e.0 ∷ keys_of es) 0 (suc p) e.0 s (omega arith)
      (omega (arith, keys_len es)) in
      let turned : cmp (get_or (keys_of es) p e.0) e.0 ≡ Greater = less-reversed e.0 _ below in
      subst (λ (z : K). is_eq (cmp z e.0) ≡ false) at (ap is_eq turned)
    where
      keys_len : (xs : List (K × ℤ)) → length (keys_of xs) ≡ length xs
      keys_len [] = refl
      keys_len (x ∷ xs) = omega (arith, keys_len xs)

  pub value_found : (es : List (K × ℤ)) (p : ℕ) (key : K) (d : K × ℤ) → IsStrictlySortedBy cmp (keys_of es) → p < length es →
      ((x : K × ℤ) → (get_or es p x).0 ≡ key) → value_at cmp es key ≡ Some (get_or es p d).1
  value_found [] p key d s l h = absurd (omega arith)
  value_found (e ∷ es) zero key d s l h = rw (itself e.0 key (h d)) refl
  value_found (e ∷ es) (suc p) key d s l h = rw (apart e es p key s (omega arith) h)
      (value_found es p key d (sorted_tail cmp e.0 (keys_of es) s) (omega arith) h)

  -- a write at the place is a write at the index
  pub written : (es : List (K × ℤ)) (p : ℕ) (key : K) (v : ℤ) → IsStrictlySortedBy cmp (keys_of es) → p < length es → ((x : K × ℤ) → (get_or es p x).0 ≡ key) →
      set es p (key, v) ≡ set_value (is_at (cmp key)) es v
  written [] p key v s l h = absurd (omega arith)
  written (e ∷ es) zero key v s l h = rw (itself e.0 key (h e)) (λ i. (sym (h e) i, v) ∷ es)
  written (e ∷ es) (suc p) key v s l h = rw (apart e es p key s (omega arith) h)
      (ap (λ xs. e ∷ xs) (written es p key v (sorted_tail cmp e.0 (keys_of es) s) (omega arith) h))
