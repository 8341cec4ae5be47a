-- Which indices are in a rectangle: the points of the product, and nothing else.
use Rattle.std.proofs.Common.{◌≡◌, ◌↔◌, ℕ, zero, suc, Bool, true, false, Decides, ℤ, List, [], ◌∷◌, map, Some, length, slice_get, refl, sym, ap, ◌∙◌, arith}
use Rattle.std.specs.Cmp.{Equal-is, eq_by_cmp_equiv}
use Rattle.std.specs.List.{Contains, list_any}
use Rattle.std.specs.Option.{option_map}
use Rattle.std.proofs.lemmas.Map.Views.{list_any-from_Contains, Contains-from_any}
use Rattle.std.proofs.lemmas.Option.{slice_get_within, get_or_from_slice_get, slice_get-get_or}
use Rattle.selective_undo.proofs.Log.{get-map}
use Rattle.wb_rect.specs.Product.{product}
use Rattle.wb_rect.proofs.Common.{pair_of}
use Rattle.wb_cells.specs.contracts.values.index.IndexOrd.TheImpl.Laws as index_laws
use Rattle.wb_cells.specs.declared.values.index.Index.{Index}
use Rattle.wb_cells.specs.declared.values.index.Index.TheVariants.{Point, Text}
use Rattle.wb_cells.specs.Cells.{index_cmp-IsAntisymmetric, is_same_index}
use Rattle.wb_cells.specs.Shapes.{indices}
use Rattle.wb_cells.specs.WellFormed.{has}
use Rattle.wb_cells.proofs.Points.{point_there}

same_indices : (i j : Index) → is_same_index i j ≡ true → i ≡ j
same_indices i j t = index_cmp-IsAntisymmetric i j ((Equal-is _).0 t)

Contains-points : (xs : List (List ℤ)) (i : List ℤ) → Contains (map Point xs) (Point i) ↔ Contains xs i
Contains-points xs i = (
  λ m.
      let e : slice_get (map Point xs) m.0 ≡ Some (Point i) = slice_get-get_or (map Point xs) m.0 (Point i) m.1 ∙ ap (λ z. Some z) m.2 in
      let a = point_there (slice_get xs m.0) (Point i) (sym (get-map Point xs m.0) ∙ e) in
      let same : a.0 ≡ i = cc in
      let f : slice_get xs m.0 ≡ Some i = a.1 ∙ ap (λ z. Some z) same in
      (m.0, slice_get_within xs m.0 i f, get_or_from_slice_get xs m.0 i i f),
  λ m.
      let e : slice_get xs m.0 ≡ Some i = slice_get-get_or xs m.0 i m.1 ∙ ap (λ z. Some z) m.2 in
      let f : slice_get (map Point xs) m.0 ≡ Some (Point i) = get-map Point xs m.0 ∙ ap (option_map Point) e in
      (m.0, slice_get_within (map Point xs) m.0 (Point i) f, get_or_from_slice_get (map Point xs) m.0 (Point i) (Point i) f),
)

-- a point is in a rectangle exactly where it is in the product of the ranges
pub has_point : (rs : List (List ℤ)) (i : List ℤ) → Decides (has (indices rs) (Point i)) (Contains (product rs) i)
has_point rs i = (
  λ t. (Contains-points (product rs) i).0 (Contains-from_any same_indices (Point i) (indices rs) t),
  λ m. list_any-from_Contains (eq_by_cmp_equiv index_laws.total-law) (Point i) (indices rs) ((Contains-points (product rs) i).1 m),
)

no_text_among : (xs : List (List ℤ)) (t : List ℕ) → list_any (is_same_index (Text t)) (map Point xs) ≡ false
no_text_among [] t = refl
no_text_among (x ∷ xs) t = no_text_among xs t

-- no text is in a rectangle
pub has_no_text : (rs : List (List ℤ)) (t : List ℕ) → false ≡ has (indices rs) (Text t)
has_no_text rs t = sym (no_text_among (product rs) t)

length-in_product : (rs : List (List ℤ)) (i : List ℤ) → Contains (product rs) i → length i ≡ length rs
length-in_product [] i (zero, l, e) = ap (λ (xs : List ℤ). length xs) (sym e)
length-in_product [] i (suc k, l, e) = absurd (omega arith)
length-in_product (xs ∷ rs) i m =
    let p = pair_of xs (product rs) i m in
    let r : length p.tail ≡ length rs = length-in_product rs p.tail p.tail_in in
    ap (λ (zs : List ℤ). length zs) p.whole ∙ omega (arith, r)

-- a point inside has as many coordinates as there are ranges
pub length-inside : (rs : List (List ℤ)) (i : List ℤ) → has (indices rs) (Point i) ≡ true → length i ≡ length rs
length-inside rs i t = length-in_product rs i ((has_point rs i).0 t)

-- nor is a point of another rank
pub has_none_of_other_rank : (rs : List (List ℤ)) (i : List ℤ) → (length i ≡ length rs → ⊥) → false ≡ has (indices rs) (Point i)
has_none_of_other_rank rs i other = by (has (indices rs) (Point i)) refl
  where
    by : (b : Bool) → has (indices rs) (Point i) ≡ b → false ≡ has (indices rs) (Point i)
    by false e = sym e
    by true e = absurd (other (length-inside rs i e))
