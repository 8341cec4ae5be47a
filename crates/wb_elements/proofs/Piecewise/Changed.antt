-- Elements after changes.
use Rattle.std.proofs.Common.{◌≡◌, ℕ, ◌+◌, ◌<◌, ℤ, Bool, true, false, cond, List, [], ◌∷◌, ◌++◌, length, take, get_or, Option, Some, None, refl, sym, ap}
use Rattle.std.proofs.Common.{◌∙◌, ◌⊎◌, inl, inr}
use Rattle.std.specs.declared.cmp.Ordering.{Ordering}
use Rattle.std.specs.declared.cmp.Ordering.TheVariants.{Less}
use Rattle.std.specs.Cmp.{Equal-is}
use Rattle.std.specs.List.{AllByRecursion}
use Rattle.std.specs.List.Sorted.{IsStrictlySortedBy}
use Rattle.std.specs.Map.{keys_of}
use Rattle.std.specs.Option.{option_or}
use Rattle.std.proofs.lemmas.List.{take_more}
use Rattle.selective_undo.proofs.Log.{append-map}
use Rattle.wb_arrays.specs.Elements.{value_at}
use Rattle.wb_cells.specs.declared.values.index.Index.{Index}
use Rattle.wb_cells.specs.Cells.{index_cmp, index_cmp-IsAntisymmetric, is_same_index}
use Rattle.wb_elements.specs.Piecewise.Indexed.{indexed}
use Rattle.wb_elements.specs.Piecewise.Changed.{changed_at, all_set}

pub one_index : (i j : Index) → is_same_index i j ≡ true → i ≡ j
one_index i j e = index_cmp-IsAntisymmetric i j ((Equal-is _).0 e)

module _ {I : Type 0} (cmp : I → I → Ordering) (f : I → Index) (alike : (x y : I) → index_cmp (f x) (f y) ≡ cmp x y) where
  -- where there is an element, the index is that of a key
  pub as_key : (es : List (I × ℤ)) (i : Index) → (value_at index_cmp (indexed f es) i ≡ None) ⊎ ((k : I) × (f k ≡ i))
  as_key [] i = inl refl
  as_key (e ∷ es) i = by (is_same_index i (f e.0)) refl (as_key es i)
    where
      by : (t : Bool) → is_same_index i (f e.0) ≡ t → ((value_at index_cmp (indexed f es) i ≡ None) ⊎ ((k : I) × (f k ≡ i))) →
          (cond t (Some e.1) (value_at index_cmp (indexed f es) i) ≡ None) ⊎ ((k : I) × (f k ≡ i))
      by true t rest = inr (e.0, sym (one_index i (f e.0) t))
      by false t rest = rest

-- ---- one change more

pub changed-last : (xs : List (Index × Option ℤ)) (x : Index × Option ℤ) (o : Option ℤ) (i : Index) →
    changed_at (xs ++ x ∷ []) o i ≡ cond (is_same_index i x.0) x.1 (changed_at xs o i)
changed-last [] x o i = refl
changed-last (y ∷ xs) x o i = changed-last xs x (cond (is_same_index i y.0) y.1 o) i

pub changed_more : (xs : List (Index × Option ℤ)) (k : ℕ) (x : Index × Option ℤ) (o : Option ℤ) (i : Index) → k < length xs → x ≡ get_or xs k x →
    changed_at (take (k + 1) xs) o i ≡ cond (is_same_index i x.0) x.1 (changed_at (take k xs) o i)
changed_more xs k x o i low is =
    let more : take (k + 1) xs ≡ take k xs ++ x ∷ [] = take_more xs k x low ∙ ap (λ (y : Index × Option ℤ). take k xs ++ y ∷ []) (sym is) in
    ap (λ ys. changed_at ys o i) more ∙ changed-last (take k xs) x o i

pub set_more : (xs : List (Index × ℤ)) (k : ℕ) (x : Index × ℤ) (o : Option ℤ) (i : Index) → k < length xs → x ≡ get_or xs k x →
    changed_at (all_set (take (k + 1) xs)) o i ≡ cond (is_same_index i x.0) (Some x.1) (changed_at (all_set (take k xs)) o i)
set_more xs k x o i low is =
    let set_of : (Index × ℤ) → Index × Option ℤ = λ e. (e.0, Some e.1) in
    let more : take (k + 1) xs ≡ take k xs ++ x ∷ [] = take_more xs k x low ∙ ap (λ (y : Index × ℤ). take k xs ++ y ∷ []) (sym is) in
    ap (λ ys. changed_at (all_set ys) o i) more
    ∙ ap (λ ys. changed_at ys o i) (append-map set_of (take k xs) (x ∷ []))
    ∙ changed-last (all_set (take k xs)) (x.0, Some x.1) o i

-- ---- all are set

pub none_above : (k : Index) (es : List (Index × ℤ)) → AllByRecursion (λ y. index_cmp k y ≡ Less) (keys_of es) → value_at index_cmp es k ≡ None
none_above k [] all = refl
none_above k (e ∷ es) all = rw all.0 (none_above k es all.1)

pub all_there : (es : List (Index × ℤ)) (o : Option ℤ) (i : Index) → IsStrictlySortedBy index_cmp (keys_of es) →
    changed_at (all_set es) o i ≡ option_or (value_at index_cmp es i) o
unfolding IsStrictlySortedBy
all_there [] o i s = refl
all_there (e ∷ es) o i s = all_there es (cond (is_same_index i e.0) (Some e.1) o) i s.1 ∙ by (is_same_index i e.0) refl
  where
    by : (t : Bool) → is_same_index i e.0 ≡ t →
        option_or (value_at index_cmp es i) (cond t (Some e.1) o) ≡ option_or (cond t (Some e.1) (value_at index_cmp es i)) o
    by false t = refl
    by true t =
        let gone : value_at index_cmp es i ≡ None = ap (value_at index_cmp es) (one_index i e.0 t) ∙ none_above e.0 es s.0 in
        rw gone refl

pub or_nothing : (o : Option ℤ) → option_or o None ≡ o
or_nothing None = refl
or_nothing (Some v) = refl
