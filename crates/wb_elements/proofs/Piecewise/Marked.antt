-- Marks at keys, of which the last at a key counts.
use Rattle.std.proofs.Common.{◌≡◌, ℤ, Bool, true, false, true≢false, cond, List, [], ◌∷◌, ◌++◌, Option, Some, None, IsSome}
use Rattle.std.proofs.Common.{is_some, refl, sym, ap, subst, ◌∙◌, ◌⊎◌, inl, inr}
use Rattle.std.specs.BTreeMap.{BTreeMap, is_at, IsFromIterResult}
use Rattle.std.specs.Cmp.{IsTotalOrder, eq_by_cmp_equiv, Equal-is}
use Rattle.std.specs.declared.cmp.Ordering.{Ordering}
use Rattle.std.specs.declared.cmp.Ordering.TheVariants.{Less}
use Rattle.std.specs.FinMap.{IsAntisymmetric}
use Rattle.std.specs.List.{AllByRecursion}
use Rattle.std.specs.List.Sorted.{IsStrictlySortedBy}
use Rattle.std.specs.Map.{keys_of, lookup, update, update_all}
use Rattle.std.specs.Option.{option_flatten}
use Rattle.std.specs.Ordering.{is_eq, eq_by_cmp}
use Rattle.std.proofs.lemmas.List.{append-nil, append_assoc}
use Rattle.selective_undo.proofs.Log.{append-map}
use Rattle.wb_arrays.specs.Elements.{value_at}
use Rattle.wb_cells.specs.declared.values.index.Index.{Index}
use Rattle.wb_cells.specs.contracts.values.index.IndexOrd.TheImpl.Laws as index_laws
use Rattle.wb_cells.specs.Cells.{index_cmp, is_same_index}
use Rattle.wb_elements.specs.Piecewise.Indexed.{indexed, AllOf}
use Rattle.wb_elements.specs.Piecewise.Changed.{changed_at}
use Rattle.wb_elements.specs.Piecewise.Marked.{as_changes, marked_at, AllMarked, with_number, numbers_of}
use Rattle.wb_elements.proofs.Piecewise.Changed.{one_index, changed-last, as_key}
use Rattle.wb_elements.proofs.Piecewise.Indexed.{value_at-indexed}

-- ---- one mark more

module _ {I : Type 0} (f : I → Index) where
  pub marked-last : (ms : List (I × Option ℤ)) (m : I × Option ℤ) (i : Index) →
      marked_at f (ms ++ m ∷ []) i ≡ cond (is_same_index i (f m.0)) m.1 (marked_at f ms i)
  marked-last ms m i =
      ap (λ xs. changed_at xs None i) (append-map (λ (x : I × Option ℤ). (f x.0, x.1)) ms (m ∷ []))
      ∙ changed-last (as_changes f ms) (f m.0, m.1) None i

  pub all_marked-last : (is_of : Index → Bool) (ms : List (I × Option ℤ)) (m : I × Option ℤ) → AllMarked f is_of ms → is_of (f m.0) ≡ true →
      AllMarked f is_of (ms ++ m ∷ [])
  all_marked-last is_of [] m all here = (here, tt)
  all_marked-last is_of (x ∷ ms) m all here = (all.0, all_marked-last is_of ms m all.1 here)

  -- where a mark counts, the index is that of a key
  marked_key : (ms : List (I × Option ℤ)) (o : Option ℤ) (i : Index) → (changed_at (as_changes f ms) o i ≡ o) ⊎ ((k : I) × (f k ≡ i))
  marked_key [] o i = inl refl
  marked_key (m ∷ ms) o i = by (is_same_index i (f m.0)) refl (marked_key ms o i)
    where
      by : (t : Bool) → is_same_index i (f m.0) ≡ t → ((changed_at (as_changes f ms) o i ≡ o) ⊎ ((k : I) × (f k ≡ i))) →
          (changed_at (as_changes f ms) (cond t m.1 o) i ≡ o) ⊎ ((k : I) × (f k ≡ i))
      by true e rest = inr (m.0, sym (one_index i (f m.0) e))
      by false e rest = rest

-- ---- one number more

pub number_more : {I : Type 0} → (es : List (I × ℤ)) (k : I) (w : Option ℤ) (rest : List (I × ℤ)) →
    (es ++ with_number k w []) ++ rest ≡ es ++ with_number k w rest
number_more es k None rest = ap (λ xs. xs ++ rest) (append-nil es)
number_more es k (Some v) rest = append_assoc es ((k, v) ∷ []) rest

-- ---- the last mark at each key

pick : (s t : Bool) → s ≡ t → (w : Option ℤ) (o : Option (Option ℤ)) → option_flatten (cond s (Some w) o) ≡ cond t w (option_flatten o)
pick true true e w o = refl
pick true false e w o = absurd (true≢false e)
pick false true e w o = absurd (true≢false (sym e))
pick false false e w o = refl

either_there : (t : Bool) (w : Option ℤ) (o : Option (Option ℤ)) → IsSome o → IsSome (cond t (Some w) o)
either_there true w o there = refl
either_there false w o there = there

module _ {I : Type 0} (cmp : I → I → Ordering) (f : I → Index) (alike : (x y : I) → index_cmp (f x) (f y) ≡ cmp x y) where
  same_test : (k q : I) → eq_by_cmp cmp k q ≡ is_same_index (f q) (f k)
  same_test k q = sym (ap is_eq (alike k q)) ∙ (eq_by_cmp_equiv index_laws.total-law).symm (f k) (f q)

  last_is : (ms : List (I × Option ℤ)) (g : I → Option (Option ℤ)) (q : I) →
      option_flatten (update_all (eq_by_cmp cmp) g ms q) ≡ changed_at (as_changes f ms) (option_flatten (g q)) (f q)
  last_is [] g q = refl
  last_is (m ∷ ms) g q =
      last_is ms (update (eq_by_cmp cmp) g m.0 (Some m.1)) q
      ∙ ap (λ (o : Option ℤ). changed_at (as_changes f ms) o (f q)) (pick (eq_by_cmp cmp m.0 q) (is_same_index (f q) (f m.0)) (same_test m.0 q) m.1 (g q))

  -- ---- the numbers

  none_above : (k : I) (ms : List (I × Option ℤ)) → AllByRecursion (λ y. cmp k y ≡ Less) (keys_of ms) → lookup (is_at (cmp k)) ms ≡ None
  none_above k [] all = refl
  none_above k (m ∷ ms) all = rw all.0 (none_above k ms all.1)

  below_numbers : (k : I) (ms : List (I × Option ℤ)) → AllByRecursion (λ y. cmp k y ≡ Less) (keys_of ms) →
      AllByRecursion (λ y. cmp k y ≡ Less) (keys_of (numbers_of ms))
  below_numbers k [] all = tt
  below_numbers k (m ∷ ms) all = by m.1 (below_numbers k ms all.1)
    where
      by : (w : Option ℤ) → AllByRecursion (λ y. cmp k y ≡ Less) (keys_of (numbers_of ms)) →
          AllByRecursion (λ y. cmp k y ≡ Less) (keys_of (with_number m.0 w (numbers_of ms)))
      by None rest = rest
      by (Some v) rest = (all.0, rest)

  sorted_with : (k : I) (w : Option ℤ) (es : List (I × ℤ)) → AllByRecursion (λ y. cmp k y ≡ Less) (keys_of es) →
      IsStrictlySortedBy cmp (keys_of es) → IsStrictlySortedBy cmp (keys_of (with_number k w es))
  unfolding IsStrictlySortedBy
  sorted_with k None es all s = s
  sorted_with k (Some v) es all s = (all, s)

  pub numbers-ascending : (ms : List (I × Option ℤ)) → IsStrictlySortedBy cmp (keys_of ms) → IsStrictlySortedBy cmp (keys_of (numbers_of ms))
  unfolding IsStrictlySortedBy
  numbers-ascending [] s = tt
  numbers-ascending (m ∷ ms) s = sorted_with m.0 m.1 (numbers_of ms) (below_numbers m.0 ms s.0) (numbers-ascending ms s.1)

  module _ (exact : IsAntisymmetric cmp) where
    one_key : (k q : I) → eq_by_cmp cmp k q ≡ true → k ≡ q
    one_key k q e = exact k q ((Equal-is _).0 e)

    number_at : (ms : List (I × Option ℤ)) (q : I) → IsStrictlySortedBy cmp (keys_of ms) →
        value_at cmp (numbers_of ms) q ≡ option_flatten (lookup (is_at (cmp q)) ms)
    unfolding IsStrictlySortedBy
    number_at [] q s = refl
    number_at (m ∷ ms) q s = by m.1 (is_eq (cmp q m.0)) refl (number_at ms q s.1)
      where
        by : (w : Option ℤ) (t : Bool) → is_eq (cmp q m.0) ≡ t → value_at cmp (numbers_of ms) q ≡ option_flatten (lookup (is_at (cmp q)) ms) →
            value_at cmp (with_number m.0 w (numbers_of ms)) q ≡ option_flatten (cond t (Some w) (lookup (is_at (cmp q)) ms))
        by None false e rest = rest
        by None true e rest =
            let gone : lookup (is_at (cmp q)) ms ≡ None = ap (λ k. lookup (is_at (cmp k)) ms) (one_key q m.0 e) ∙ none_above m.0 ms s.0 in
            rest ∙ ap option_flatten gone
        by (Some v) false e rest = rw e rest
        by (Some v) true e rest = rw e refl

    -- ---- their form

    formed : (is_of : Index → Bool) (ms : List (I × Option ℤ)) (g : I → Option (Option ℤ)) (q : I) → AllMarked f is_of ms →
        (IsSome (g q) → is_of (f q) ≡ true) → IsSome (update_all (eq_by_cmp cmp) g ms q) → is_of (f q) ≡ true
    formed is_of [] g q all before there = before there
    formed is_of (m ∷ ms) g q all before there =
        formed is_of ms (update (eq_by_cmp cmp) g m.0 (Some m.1)) q all.1 (by (eq_by_cmp cmp m.0 q) refl) there
      where
        by : (t : Bool) → eq_by_cmp cmp m.0 q ≡ t → IsSome (cond t (Some m.1) (g q)) → is_of (f q) ≡ true
        by true e here = ap (λ k. is_of (f k)) (sym (one_key m.0 q e)) ∙ all.0
        by false e here = before here

    kept_numbers : (total : IsTotalOrder cmp) (is_of : Index → Bool) (ms : List (I × Option ℤ)) →
        ((q : I) → IsSome (lookup (is_at (cmp q)) ms) → is_of (f q) ≡ true) → AllOf f is_of (numbers_of ms)
    kept_numbers total is_of [] all = tt
    kept_numbers total is_of (m ∷ ms) all =
        by m.1 (all m.0 (rw ((eq_by_cmp_equiv total).refl m.0) refl))
        (kept_numbers total is_of ms (λ q there. all q (either_there (is_eq (cmp q m.0)) m.1 (lookup (is_at (cmp q)) ms) there)))
      where
        by : (w : Option ℤ) → is_of (f m.0) ≡ true → AllOf f is_of (numbers_of ms) → AllOf f is_of (with_number m.0 w (numbers_of ms))
        by None here rest = rest
        by (Some v) here rest = (here, rest)

    module _ (ms : List (I × Option ℤ)) (n : BTreeMap I (Option ℤ)) (made : IsFromIterResult cmp ms n) where
      pub numbers-kept : IsTotalOrder cmp → (is_of : Index → Bool) → AllMarked f is_of ms → AllOf f is_of (numbers_of n.entries)
      numbers-kept total is_of all =
          kept_numbers total is_of n.entries (λ q there. formed is_of ms (λ _. None) q all (λ none. absurd (true≢false (sym none)))
          (sym (ap is_some (made.0 q)) ∙ there))

      at_key : (q : I) → value_at index_cmp (indexed f (numbers_of n.entries)) (f q) ≡ marked_at f ms (f q)
      at_key q =
          value_at-indexed cmp f (λ _. true) alike (numbers_of n.entries) q
          ∙ number_at n.entries q made.1
          ∙ ap option_flatten (made.0 q)
          ∙ last_is ms (λ _. None) q

      -- at each index there is what its last mark says
      pub numbers-at : (i : Index) → value_at index_cmp (indexed f (numbers_of n.entries)) i ≡ marked_at f ms i
      numbers-at i = by (as_key cmp f alike (numbers_of n.entries) i) (marked_key f ms None i)
        where
          at_index : (k : I) → f k ≡ i → value_at index_cmp (indexed f (numbers_of n.entries)) i ≡ marked_at f ms i
          at_index k e = subst (λ (j : Index). value_at index_cmp (indexed f (numbers_of n.entries)) j ≡ marked_at f ms j) e (at_key k)

          by : (value_at index_cmp (indexed f (numbers_of n.entries)) i ≡ None) ⊎ ((k : I) × (f k ≡ i)) →
              (marked_at f ms i ≡ None) ⊎ ((k : I) × (f k ≡ i)) → value_at index_cmp (indexed f (numbers_of n.entries)) i ≡ marked_at f ms i
          by (inr k) o = at_index k.0 k.1
          by (inl none) (inr k) = at_index k.0 k.1
          by (inl none) (inl nothing) = none ∙ sym nothing
