-- A look-up among pairs whose keys stand for indices.
use Rattle.std.proofs.Common.{◌≡◌, ℤ, Bool, true, false, cond, List, [], ◌∷◌, None, refl, sym, ap, ◌∙◌}
use Rattle.std.specs.declared.cmp.Ordering.{Ordering}
use Rattle.std.specs.declared.cmp.Ordering.TheVariants.{Less, Equal, Greater}
use Rattle.std.specs.Ordering.{is_eq}
use Rattle.std.specs.List.{AllByRecursion}
use Rattle.std.specs.List.Sorted.{IsStrictlySortedBy}
use Rattle.std.specs.Map.{set_value, keys_of}
use Rattle.std.specs.BTreeMap.{is_at}
use Rattle.wb_arrays.specs.Elements.{value_at}
use Rattle.wb_arrays.proofs.Changes.{set_value-none}
use Rattle.wb_cells.specs.declared.values.index.Index.{Index}
use Rattle.wb_cells.specs.Cells.{index_cmp, index_cmp-IsAntisymmetric}
use Rattle.wb_elements.specs.Piecewise.Indexed.{indexed, AllOf}

module _ {I : Type 0} (cmp : I → I → Ordering) (f : I → Index) (is_of : Index → Bool) where
  pub value_at-indexed : ((x y : I) → index_cmp (f x) (f y) ≡ cmp x y) → (es : List (I × ℤ)) (k : I) →
      value_at index_cmp (indexed f es) (f k) ≡ value_at cmp es k
  value_at-indexed alike [] k = refl
  value_at-indexed alike (e ∷ es) k = rw (alike k e.0, value_at-indexed alike es k) refl

  other : (i j : Index) (o : Ordering) → index_cmp i j ≡ o → is_of j ≡ true → is_of i ≡ false → is_eq o ≡ false
  other i j Less e t f = refl
  other i j Greater e t f = refl
  other i j Equal e t f = let same : i ≡ j = index_cmp-IsAntisymmetric i j e in cc

  pub value_at-none : (es : List (I × ℤ)) (i : Index) → AllOf f is_of es → is_of i ≡ false → value_at index_cmp (indexed f es) i ≡ None
  value_at-none [] i all apart = refl
  value_at-none (e ∷ es) i all apart = rw (other i (f e.0) (index_cmp i (f e.0)) refl all.0 apart) (value_at-none es i all.1 apart)

  pub set_value-indexed : ((x y : I) → index_cmp (f x) (f y) ≡ cmp x y) → (es : List (I × ℤ)) (k : I) (v : ℤ) →
      indexed f (set_value (is_at (cmp k)) es v) ≡ set_value (is_at (index_cmp (f k))) (indexed f es) v
  set_value-indexed alike [] k v = refl
  set_value-indexed alike (e ∷ es) k v = rw (alike k e.0) (by (is_eq (cmp k e.0)) (set_value-indexed alike es k v))
    where
      by : (b : Bool) → indexed f (set_value (is_at (cmp k)) es v) ≡ set_value (is_at (index_cmp (f k))) (indexed f es) v →
          indexed f (cond b ((e.0, v) ∷ es) (e ∷ set_value (is_at (cmp k)) es v)) ≡ cond b ((f e.0, v) ∷ indexed f es)
          ((f e.0, e.1) ∷ set_value (is_at (index_cmp (f k))) (indexed f es) v)
      by true h = refl
      by false h = ap (λ xs. (f e.0, e.1) ∷ xs) h

  pub all_of-set_value : (test : I → Bool) (es : List (I × ℤ)) (v : ℤ) → AllOf f is_of es → AllOf f is_of (set_value test es v)
  all_of-set_value test [] v all = tt
  all_of-set_value test (e ∷ es) v all = by (test e.0) (all_of-set_value test es v all.1)
    where
      by : (b : Bool) → AllOf f is_of (set_value test es v) → AllOf f is_of (cond b ((e.0, v) ∷ es) (e ∷ set_value test es v))
      by true h = all
      by false h = (all.0, h)

  pub set_value-absent : (es : List (I × ℤ)) (i : Index) (v : ℤ) → AllOf f is_of es → is_of i ≡ false →
      indexed f es ≡ set_value (is_at (index_cmp i)) (indexed f es) v
  set_value-absent es i v all apart = sym (set_value-none (is_at (index_cmp i)) (indexed f es) v (value_at-none es i all apart))

  below_indexed : ((x y : I) → index_cmp (f x) (f y) ≡ cmp x y) → (k : I) (es : List (I × ℤ)) → AllByRecursion (λ y. cmp k y ≡ Less) (keys_of es) →
      AllByRecursion (λ y. index_cmp (f k) y ≡ Less) (keys_of (indexed f es))
  below_indexed alike k [] all = tt
  below_indexed alike k (e ∷ es) all = (alike k e.0 ∙ all.0, below_indexed alike k es all.1)

  pub sorted-indexed : ((x y : I) → index_cmp (f x) (f y) ≡ cmp x y) → (es : List (I × ℤ)) → IsStrictlySortedBy cmp (keys_of es) →
      IsStrictlySortedBy index_cmp (keys_of (indexed f es))
  unfolding IsStrictlySortedBy
  sorted-indexed alike [] s = tt
  sorted-indexed alike (e ∷ es) s = (below_indexed alike e.0 es s.0, sorted-indexed alike es s.1)
