-- A workbook after a change of a domain's indices, by what each of its cells holds, and that its arrays have their elements.
use Rattle.std.proofs.Common.{◌≡◌, ⊎_elim, ℤ, Bool, true, false, not, cond, ◌&&◌, List, Option, Some, None, is_some, FitsSigned, refl, sym, ap, subst, ◌∙◌}
use Rattle.std.specs.Int.{w64}
use Rattle.std.specs.FinMap.{get}
use Rattle.std.specs.List.{Contains, list_any}
use Rattle.wb_cells.specs.declared.cells.cell.Cell.{Cell}
use Rattle.wb_cells.specs.declared.cells.cell.Cell.TheVariants.{Object, Shape, In, Member, Mapping, Use, Implicit, Element}
use Rattle.wb_cells.specs.declared.cells.kind.DomainKind.{DomainKind}
use Rattle.wb_cells.specs.declared.cells.kind.DomainKind.TheVariants.{Rectangular, Sparse, Associative}
use Rattle.wb_cells.specs.declared.cells.kind.Kind.{Kind}
use Rattle.wb_cells.specs.declared.cells.kind.Kind.TheVariants.{Rectangular, Sparse, Associative}
use Rattle.wb_cells.specs.declared.cells.value.Binding.TheVariants.{Array, Sparse}
use Rattle.wb_cells.specs.declared.cells.value.Value.{Value}
use Rattle.wb_cells.specs.declared.cells.value.Value.TheVariants.{Array, Mapping, Present, Bound, Number}
use Rattle.wb_cells.specs.declared.values.index.Index.{Index}
use Rattle.wb_cells.specs.Cells.{Name, Cells, cell_cmp, is_same_name}
use Rattle.wb_cells.specs.Kinds.{kind_of}
use Rattle.wb_cells.specs.WellFormed.{IsWellFormed, IsElement, has, use_of, domain_at, array_at, index_cell, is_index_of_array}
use Rattle.wb_reshape.specs.Laws.{AreFills}
use Rattle.wb_reshape.specs.Resized.{elements_exchanged, resized_cells}
use Rattle.wb_reshape.proofs.Gets.{after}
use Rattle.wb_reshape.proofs.Exchanged.{has_ranges, exchanged_at, IsFilled, after-inside, after-member, no_element-resized, no_index-resized, neither-resized}
use Rattle.wb_reshape.proofs.Exchanged.{filled}
use Rattle.wb_reshape.proofs.States.{same_name, itself, array_in-is, array_over, index_cell_same, indices_same}

abbrev pub is_shape : Cell → Bool
is_shape (Shape n) = true
is_shape _ = false

-- Indices left the domain d of s and others came to it, and so did the elements of the arrays over it; what ranges there are is said apart.
pub record IsResized (s t : Cells) (kind : Kind) (d : Name) (fills : List (Name × ℤ)) (leaving coming : List Index) : Type 0 where
  pub object : (n : Name) → get t (Object n) ≡ get s (Object n)
  pub inside : (n : Name) (i : Index) → get t (In n i) ≡ cond (has_ranges kind && is_same_name n d) (exchanged_at leaving coming Present i (get s (In n i)))
      (get s (In n i))
  pub member : (n : Name) (i : Index) → get t (Member n i) ≡ cond (not (has_ranges kind) && is_same_name n d)
      (exchanged_at leaving coming Present i (get s (Member n i))) (get s (Member n i))
  pub mapping : (n : Name) → get t (Mapping n) ≡ get s (Mapping n)
  pub used : (e n : Name) → get t (Use e n) ≡ get s (Use e n)
  pub implicit : (n : Name) → get t (Implicit n) ≡ get s (Implicit n)
  pub element : (a : Name) (i : Index) → IsFilled leaving coming fills a i (get s (Element a i)) (get t (Element a i))

pub is_resized : (s t : Cells) (kind : Kind) (d : Name) (fills : List (Name × ℤ)) (leaving coming : List Index)
    → ((c : Cell) → is_shape c ≡ false → get t c ≡ after cell_cmp (resized_cells kind d fills leaving coming) c (get s c))
    → IsResized s t kind d fills leaving coming
is_resized s t kind d fills leaving coming at =
    let neither = neither-resized leaving coming kind d fills in
    let no_element = no_element-resized leaving coming kind d fills in
    record {
      object = λ n. at (Object n) refl ∙ neither (Object n) (get s (Object n)) (λ a i. refl) (λ i. refl) (λ i. refl);
      inside = λ n i. at (In n i) refl ∙ no_element (In n i) (get s (In n i)) (λ a j. refl) ∙ after-inside leaving coming kind d n i (get s (In n i));
      member = λ n i. at (Member n i) refl ∙ no_element (Member n i) (get s (Member n i)) (λ a j. refl) ∙
          after-member leaving coming kind d n i (get s (Member n i));
      mapping = λ n. at (Mapping n) refl ∙ neither (Mapping n) (get s (Mapping n)) (λ a i. refl) (λ i. refl) (λ i. refl);
      used = λ e n. at (Use e n) refl ∙ neither (Use e n) (get s (Use e n)) (λ a i. refl) (λ i. refl) (λ i. refl);
      implicit = λ n. at (Implicit n) refl ∙ neither (Implicit n) (get s (Implicit n)) (λ a i. refl) (λ i. refl) (λ i. refl);
      element = λ a i.
          let o : Option Value = get s (Element a i) in
          let is : get t (Element a i) ≡ after cell_cmp (elements_exchanged fills leaving coming) (Element a i) o = at (Element a i) refl ∙
          no_index-resized leaving coming kind d fills (Element a i) o (λ j. refl) (λ j. refl) in
          subst (IsFilled leaving coming fills a i o) (sym is) (filled leaving coming fills a i o);
    }

-- ---- an index is in the domain and an array over it has an element there, or neither

not_here : (b c : Bool) (p o : Option Value) → c ≡ false → cond (b && c) p o ≡ o
not_here true true p o e = cc
not_here true false p o e = refl
not_here false c p o e = refl

exchanged_element : (comes leaves : Bool) (o p : Option Value) (v : ℤ) → FitsSigned w64 v → IsElement (is_some o) p →
    IsElement (is_some (cond comes (Some Present) (cond leaves None o))) (cond comes (Some (Number v)) (cond leaves None p))
exchanged_element true leaves o p v fits old = (v, refl, fits)
exchanged_element false true o p v fits old = refl
exchanged_element false false o p v fits old = old

index_here : (s t : Cells) (kind : Kind) (d : Name) (fills : List (Name × ℤ)) (leaving coming : List Index) → IsResized s t kind d fills leaving coming
    → (i : Index) → get t (index_cell kind d i) ≡ exchanged_at leaving coming Present i (get s (index_cell kind d i))
index_here s t (Rectangular rank) d fills leaving coming k i = k.inside d i ∙
    ap (λ b. cond b (exchanged_at leaving coming Present i (get s (In d i))) (get s (In d i))) (itself d)
index_here s t (Sparse rank) d fills leaving coming k i = k.member d i ∙
    ap (λ b. cond b (exchanged_at leaving coming Present i (get s (Member d i))) (get s (Member d i))) (itself d)
index_here s t (Associative type) d fills leaving coming k i = k.member d i ∙
    ap (λ b. cond b (exchanged_at leaving coming Present i (get s (Member d i))) (get s (Member d i))) (itself d)

module _ (s t : Cells) (kind : Kind) (d : Name) (fills : List (Name × ℤ)) (leaving coming : List Index) (k : IsResized s t kind d fills leaving coming) where
  index_elsewhere : (e : Name) (other : Kind) (i : Index) → is_same_name e d ≡ false → get t (index_cell other e i) ≡ get s (index_cell other e i)
  index_elsewhere e other i apart =
      index_cell_same s t other e i
      (k.inside e i ∙ not_here (has_ranges kind) (is_same_name e d) (exchanged_at leaving coming Present i (get s (In e i))) (get s (In e i)) apart)
      (k.member e i ∙ not_here (not (has_ranges kind)) (is_same_name e d) (exchanged_at leaving coming Present i (get s (Member e i))) (get s (Member e i))
      apart)

module _ (s t : Cells) (d : Name) (kind : DomainKind) (fills : List (Name × ℤ)) (leaving coming : List Index) (h : IsWellFormed s)
    (there : domain_at s d ≡ Some kind) (are : AreFills s d fills) where
  -- each of the arrays is one over the domain
  over_it : (a : Name) (v : ℤ) → Contains fills (a, v) → array_at s a ≡ Some (d, kind_of kind)
  over_it a v listed = array_over s h d kind there a (are.only a v listed)

  -- an array that is none of them is over another domain
  over_another : (a e : Name) (other : Kind) → list_any (λ f. is_same_name a f.0) fills ≡ false → array_at s a ≡ Some (e, other) → is_same_name e d ≡ false
  over_another a e other none array = elim (is_same_name e d) as (λ b. is_same_name e d ≡ b → b ≡ false) [
    | true ↦ λ same.
        let object : get s (Object a) ≡ Some (Array e other) = array_in-is (get s (Object a)) (e, other) array in
        let used : get s (Use d a) ≡ Some (Bound Array) = h.uses d a ∙ ap (use_of d) object ∙ ap (λ n. use_of d (Some (Array n other))) (same_name e d same) ∙
        ap (λ b. elim b as (λ _. Option Value) [ true ↦ Some (Bound Array) | false ↦ None ]) (itself d) in
        sym (are.all a used) ∙ none
    | false ↦ λ same. refl
  ] refl

  pub elements_kept : IsResized s t (kind_of kind) d fills leaving coming → (a : Name) (i : Index) →
      IsElement (is_index_of_array t (array_at t a) i) (get t (Element a i))
  elements_kept k a i = rw (k.object a) (⊎_elim
      (λ untouched. rw (
        untouched.1,
        indices_same s t (array_at s a) i
            (λ e other over. index_elsewhere s t (kind_of kind) d fills leaving coming k e other i (over_another a e other untouched.0 over)),
      ) (h.elements a i))
      (λ some.
      let v : ℤ = some.0 in
      let over : array_at s a ≡ Some (d, kind_of kind) = over_it a v some.1 in
      let old : IsElement (is_index_of_array s (Some (d, kind_of kind)) i) (get s (Element a i)) =
      subst (λ array. IsElement (is_index_of_array s array i) (get s (Element a i))) over (h.elements a i) in
      rw (over, some.2, index_here s t (kind_of kind) d fills leaving coming k i) (
      exchanged_element (has coming i) (has leaving i) (get s (index_cell (kind_of kind) d i)) (get s (Element a i)) v (are.numbers a v some.1) old))
      (k.element a i))
