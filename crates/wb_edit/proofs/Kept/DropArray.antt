-- The end of an array keeps a workbook well formed.
use Rattle.std.proofs.Common.{◌≡◌, Bool, true, false, cond, ◌&&◌, List, [], ◌∷◌, map, Option, Some, None, is_some, ℤ, refl, sym, ap, ◌∙◌}
use Rattle.std.proofs.lemmas.Option.{none-some}
use Rattle.std.specs.Ordering.{eq_by_cmp}
use Rattle.std.specs.FinMap.{get}
use Rattle.std.specs.FinMap.Entries.{is_some-find}
use Rattle.std.specs.List.{list_any}
use Rattle.std.specs.Map.{keys_of}
use Rattle.std.specs.Option.{option_and_then}
use Rattle.selective_undo.specs.Changes.{apply}
use Rattle.selective_undo.specs.Edit.{write}
use Rattle.wb_cells.specs.declared.cells.cell.Cell.{Cell}
use Rattle.wb_cells.specs.declared.cells.cell.Cell.TheVariants.{Object, Shape, In, Member, Mapping, Use, Implicit, Element}
use Rattle.wb_cells.specs.declared.cells.value.Binding.TheVariants.{Array}
use Rattle.wb_cells.specs.declared.cells.kind.Kind.{Kind}
use Rattle.wb_cells.specs.declared.cells.value.Value.{Value}
use Rattle.wb_cells.specs.declared.cells.value.Value.TheVariants.{Array, Bound}
use Rattle.wb_cells.specs.declared.values.index.Index.{Index}
use Rattle.wb_cells.specs.Cells.{Name, Cells, cell_cmp, cell_order, index_cmp, is_same_name}
use Rattle.wb_cells.specs.Readers as readers
use Rattle.wb_cells.specs.WellFormed.{IsWellFormed, IsImplicit, IsElement, has, domain_in, array_in, use_of, domain_at, array_at, is_index_of_array}
use Rattle.wb_edit.specs.Commands.{drop_array, dropped_cells}
use Rattle.wb_edit.specs.Elements.{elements}
use Rattle.wb_edit.specs.Trees.{Tree, judged}
use Rattle.wb_edit.specs.Looks.{array_kind}
use Rattle.wb_edit.specs.Writes.{clear_all}
use Rattle.wb_edit.proofs.Elements.{number_of, find_element}
use Rattle.wb_reshape.proofs.Gets.{after, cond-or, list_any-nowhere, get-apply}
use Rattle.wb_reshape.proofs.States.{same_name, in_column, second_first, indices_same, index_cell_same, IsObject-same, IsMember-same}
use Rattle.wb_edit.proofs.Kept.Steps.{Keeps, keeps_read, keeps_judged, array_is}

-- ---- cells that become absent

-- a cell that is one of them is absent; another one holds what it held
after-cleared : (make : Index → Cell) (is : List Index) (c : Cell) (o : Option Value) →
    after cell_cmp (clear_all (map make is)) c o ≡ cond (list_any (λ i. eq_by_cmp cell_cmp c (make i)) is) None o
after-cleared make [] c o = refl
after-cleared make (i ∷ is) c o =
    after-cleared make is c (cond (eq_by_cmp cell_cmp c (make i)) None o)
    ∙ cond-or (eq_by_cmp cell_cmp c (make i)) (list_any (λ i. eq_by_cmp cell_cmp c (make i)) is) None o

-- The workbook t is s without the array a over d, and without its elements at these indices.
record HasNoArray (s t : Cells) (a d : Name) (is : List Index) : Type 0 where
  object : (n : Name) → get t (Object n) ≡ cond (is_same_name n a) None (get s (Object n))
  shape : (n : Name) → get t (Shape n) ≡ get s (Shape n)
  inside : (n : Name) (i : Index) → get t (In n i) ≡ get s (In n i)
  member : (n : Name) (i : Index) → get t (Member n i) ≡ get s (Member n i)
  mapping : (n : Name) → get t (Mapping n) ≡ get s (Mapping n)
  used : (e n : Name) → get t (Use e n) ≡ cond (is_same_name n a && is_same_name e d) None (get s (Use e n))
  implicit : (n : Name) → get t (Implicit n) ≡ cond (is_same_name n a) None (get s (Implicit n))
  element : (n : Name) (i : Index) → get t (Element n i) ≡ cond (is_same_name n a && has is i) None (get s (Element n i))

has_no_array : (s : Cells) (a d : Name) (is : List Index) → HasNoArray s (apply (dropped_cells a d is) s) a d is
has_no_array s a d is =
    let at : (c : Cell) → get (apply (dropped_cells a d is) s) c ≡ after cell_cmp (dropped_cells a d is) c (get s c) =
    get-apply cell_order (dropped_cells a d is) s in
    let beside : (c : Cell) (o : Option Value) → list_any (λ i. eq_by_cmp cell_cmp c (Element a i)) is ≡ false →
    after cell_cmp (clear_all (map (Element a) is)) c o ≡ o = λ c o none.
    after-cleared (Element a) is c o ∙ ap (λ b. cond b None o) none in
    record {
      object = λ n. at (Object n) ∙ beside (Object n) _ (list_any-nowhere is);
      shape = λ n. at (Shape n) ∙ beside (Shape n) _ (list_any-nowhere is);
      inside = λ n i. at (In n i) ∙ beside (In n i) _ (list_any-nowhere is);
      member = λ n i. at (Member n i) ∙ beside (Member n i) _ (list_any-nowhere is);
      mapping = λ n. at (Mapping n) ∙ beside (Mapping n) _ (list_any-nowhere is);
      used = λ e n. at (Use e n) ∙ beside (Use e n) _ (list_any-nowhere is) ∙ ap (λ b. cond b None (get s (Use e n))) (second_first _ _);
      implicit = λ n. at (Implicit n) ∙ beside (Implicit n) _ (list_any-nowhere is);
      element = λ n i. at (Element n i) ∙ after-cleared (Element a) is (Element n i) (get s (Element n i)) ∙
          ap (λ b. cond b None (get s (Element n i))) (in_column _ i is);
    }

-- what was bound to the domain alone is bound to none
unbound : (b : Bool) (o : Option Value) → o ≡ elim b [ true ↦ Some (Bound Array) | false ↦ None ] → cond b None o ≡ None
unbound true o e = refl
unbound false o e = e

array_dropped : (s t : Cells) (a d : Name) (kind : Kind) (is : List Index) → IsWellFormed s → get s (Object a) ≡ Some (Array d kind) →
    ((i : Index) → cond (has is i) None (get s (Element a i)) ≡ None) → HasNoArray s t a d is → IsWellFormed t
array_dropped s t a d kind is h there gone k =
    let was : (n : Name) → is_same_name n a ≡ true → get s (Object n) ≡ Some (Array d kind) = λ n same. ap (λ m. get s (Object m)) (same_name n a same) ∙ there
    in
    let same_domain : (n : Name) → domain_at t n ≡ domain_at s n = λ n. ap domain_in (k.object n) ∙
    elim (is_same_name n a) as (λ b. is_same_name n a ≡ b → domain_in (cond b None (get s (Object n))) ≡ domain_in (get s (Object n))) [
      | true ↦ λ same. sym (ap domain_in (was n same))
      | false ↦ λ same. refl
    ] refl in
    let old : (n : Name) (v : Value) → get t (Object n) ≡ Some v → get s (Object n) ≡ Some v =
    λ n v is. elim (is_same_name n a) as (λ b. cond b None (get s (Object n)) ≡ Some v → get s (Object n) ≡ Some v) [
      | true ↦ λ none. absurd (none-some v none)
      | false ↦ λ same. same
    ] (sym (k.object n) ∙ is) in
    record {
      names = λ n v is. h.names n v (old n v is);
      objects = λ n v is. IsObject-same s t (λ e other over. same_domain e ∙ over) v (h.objects n v (old n v is));
      shapes = λ n. rw (same_domain n, k.shape n) (h.shapes n);
      insides = λ n i. rw (k.inside n i, k.shape n) (h.insides n i);
      members = λ n i. rw (same_domain n, k.member n i) (IsMember-same s t (λ e j here. k.inside e j ∙ here) (domain_at s n) i (get s (Member n i))
          (h.members n i));
      mappings = λ n. rw (same_domain n, k.mapping n) (h.mappings n);
      uses = λ e n. rw (k.used e n, k.object n) (elim (is_same_name n a) as
          (λ b. is_same_name n a ≡ b → cond (b && is_same_name e d) None (get s (Use e n)) ≡ use_of e (cond b None (get s (Object n)))) [
            | true ↦ λ same. unbound (is_same_name e d) (get s (Use e n)) (h.uses e n ∙ ap (use_of e) (was n same))
            | false ↦ λ same. h.uses e n
          ] refl);
      implicits = λ n. rw (k.object n, k.implicit n) (elim (is_same_name n a) as
          (λ b. IsImplicit (array_in (cond b None (get s (Object n)))) (cond b None (get s (Implicit n)))) [
            | true ↦ refl
            | false ↦ h.implicits n
          ]);
      elements = λ n i. rw (k.object n, k.element n i) (elim (is_same_name n a) as
          (λ b. is_same_name n a ≡ b → IsElement (is_index_of_array t (array_in (cond b None (get s (Object n)))) i)
          (cond (b && has is i) None (get s (Element n i)))) [
            | true ↦ λ same. ap (λ m. cond (has is i) None (get s (Element m i))) (same_name n a same) ∙ gone i
            | false ↦ λ same. rw (indices_same s t (array_at s n) i (λ e other over. index_cell_same s t other e i (k.inside e i) (k.member e i)))
                (h.elements n i)
          ] refl);
    }

-- ---- the elements that are seen are all that are there

none_left : (b : Bool) (o : Option Value) → IsElement b o → cond (is_some (option_and_then number_of o)) None o ≡ None
none_left true o number = rw number.1 refl
none_left false o none = rw none refl

all_seen : (s : Cells) (a : Name) → IsWellFormed s → (i : Index) → cond (has (keys_of (readers.elements s a)) i) None (get s (Element a i)) ≡ None
all_seen s a h i =
    let es : List (Index × ℤ) = readers.elements s a in
    ap (λ b. cond b None (get s (Element a i))) (sym (is_some-find index_cmp i es) ∙ ap (λ o. is_some o) (find_element s a i))
    ∙ none_left (is_index_of_array s (array_at s a) i) (get s (Element a i)) (h.elements a i)

pub drop_array_kept : (s : Cells) (a : Name) → IsWellFormed s → Keeps (drop_array a) s
drop_array_kept s a h =
    let is : List Index = keys_of (readers.elements s a) in
    let last : Name → Tree = λ d. elements a (λ es. write (dropped_cells a d (keys_of es))) in
    keeps_read s (Object a) (λ o. judged (array_kind o) (λ array. last array.0)) (λ o was.
    keeps_judged s (array_kind o) (λ array. last array.0) h (λ array ok.
    array_dropped s (apply (dropped_cells a array.0 is) s) a array.0 array.1 is h (was ∙ array_is o array ok) (all_seen s a h) (has_no_array s a array.0 is)))
