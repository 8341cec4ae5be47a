-- A new array keeps a workbook well formed.
use Rattle.std.proofs.Common.{rules, ◌≡◌, Bool, true, false, cond, ◌&&◌, List, Option, Some, None, is_some, option_map, pos, FitsSigned, refl, ap, ◌∙◌}
use Rattle.std.specs.Int.{w64}
use Rattle.std.specs.FinMap.{get}
use Rattle.selective_undo.specs.Changes.{apply}
use Rattle.selective_undo.specs.Edit.{write}
use Rattle.wb_cells.specs.declared.cells.cell.Cell.{Cell}
use Rattle.wb_cells.specs.declared.cells.cell.Cell.TheVariants.{Object, Shape, In, Member, Mapping, Use, Implicit, Element}
use Rattle.wb_cells.specs.declared.cells.value.Binding.TheVariants.{Array}
use Rattle.wb_cells.specs.declared.cells.kind.DomainKind.{DomainKind}
use Rattle.wb_cells.specs.declared.cells.kind.DomainKind.TheVariants.{Rectangular, Sparse, Associative}
use Rattle.wb_cells.specs.declared.cells.kind.Kind.{Kind}
use Rattle.wb_cells.specs.declared.cells.kind.Kind.TheVariants.{Rectangular, Sparse, Associative}
use Rattle.wb_cells.specs.Kinds.{kind_of}
use Rattle.wb_cells.specs.declared.cells.value.Value.{Value}
use Rattle.wb_cells.specs.declared.cells.value.Value.TheVariants.{Domain, Array, Bound, Number}
use Rattle.wb_cells.specs.declared.values.index.Index.{Index}
use Rattle.wb_cells.specs.Names.{is_name}
use Rattle.wb_cells.specs.Cells.{Name, Cells, cell_cmp, cell_order, is_same_name}
use Rattle.wb_cells.specs.WellFormed.{IsWellFormed, IsImplicit, IsElement, has, present_if, domain_in, array_in, use_of, domain_at, array_at, index_cell}
use Rattle.wb_cells.specs.WellFormed.{is_index_of_array}
use Rattle.wb_edit.specs.Commands.{array, new_array_changes}
use Rattle.wb_edit.specs.Looks.{is_free, domain_kind, domain_named, domain_indices}
use Rattle.wb_edit.specs.Trees.{Tree, judged}
use Rattle.wb_reshape.proofs.Gets.{after, after-column, after-beside, get-apply}
use Rattle.wb_reshape.proofs.States.{in_column, second_first, no_element, IsMember-same, index_cell_same, indices_same, was_free, domains_stay, stays}
use Rattle.wb_reshape.proofs.States.{names_kept, objects_kept}
use Rattle.wb_edit.proofs.Kept.Indices.{keeps_indices}
use Rattle.wb_edit.proofs.Kept.Steps.{Keeps, keeps_read, keeps_judged, free_is, domain_is}

-- The workbook t is s with an array over d, 0 at these indices.
record HasNewArray (s t : Cells) (a d : Name) (kind : Kind) (is : List Index) : Type 0 where
  object : (n : Name) → get t (Object n) ≡ cond (is_same_name n a) (Some (Array d kind)) (get s (Object n))
  shape : (n : Name) → get t (Shape n) ≡ get s (Shape n)
  inside : (n : Name) (i : Index) → get t (In n i) ≡ get s (In n i)
  member : (n : Name) (i : Index) → get t (Member n i) ≡ get s (Member n i)
  mapping : (n : Name) → get t (Mapping n) ≡ get s (Mapping n)
  used : (e n : Name) → get t (Use e n) ≡ cond (is_same_name n a && is_same_name e d) (Some (Bound Array)) (get s (Use e n))
  implicit : (n : Name) → get t (Implicit n) ≡ cond (is_same_name n a) (Some (Number (pos 0))) (get s (Implicit n))
  element : (n : Name) (i : Index) → get t (Element n i) ≡ cond (is_same_name n a && has is i) (Some (Number (pos 0))) (get s (Element n i))

has_new_array : (s : Cells) (a d : Name) (kind : Kind) (is : List Index) → HasNewArray s (apply (new_array_changes a d kind is) s) a d kind is
has_new_array s a d kind is =
    let zero : Value = Number (pos 0) in
    let at : (c : Cell) → get (apply (new_array_changes a d kind is) s) c ≡ after cell_cmp (new_array_changes a d kind is) c (get s c) =
    get-apply cell_order (new_array_changes a d kind is) s in
    record {
      object = λ n. at (Object n) ∙ after-beside cell_cmp (Element a) is zero (Object n) _ (λ i. refl);
      shape = λ n. at (Shape n) ∙ after-beside cell_cmp (Element a) is zero (Shape n) _ (λ i. refl);
      inside = λ n i. at (In n i) ∙ after-beside cell_cmp (Element a) is zero (In n i) _ (λ j. refl);
      member = λ n i. at (Member n i) ∙ after-beside cell_cmp (Element a) is zero (Member n i) _ (λ j. refl);
      mapping = λ n. at (Mapping n) ∙ after-beside cell_cmp (Element a) is zero (Mapping n) _ (λ i. refl);
      used = λ e n. at (Use e n) ∙ after-beside cell_cmp (Element a) is zero (Use e n) _ (λ i. refl) ∙
          ap (λ b. cond b (Some (Bound Array)) (get s (Use e n))) (second_first _ _);
      implicit = λ n. at (Implicit n) ∙ after-beside cell_cmp (Element a) is zero (Implicit n) _ (λ i. refl);
      element = λ n i. at (Element n i) ∙ after-column cell_cmp (Element a) is zero (Element n i) (get s (Element n i)) ∙
          ap (λ b. cond b (Some zero) (get s (Element n i))) (in_column _ i is);
    }

-- what is used by a user that was nothing before
bound : (b : Bool) (o : Option Value) → o ≡ None → cond b (Some (Bound Array)) o ≡ elim b [ true ↦ Some (Bound Array) | false ↦ None ]
bound true o e = refl
bound false o e = e

pub zero_fits : FitsSigned w64 (pos 0)
zero_fits = search rules

-- 0 at each index, where nothing was
zeros : (b : Bool) (o : Option Value) → o ≡ None → IsElement (is_some (present_if b)) (cond b (Some (Number (pos 0))) o)
zeros true o e = (pos 0, refl, zero_fits)
zeros false o e = e

-- an implicit value of 0 fits all kinds
zero_implicit : (d : Name) (kind : Kind) → IsImplicit (Some (d, kind)) (Some (Number (pos 0)))
zero_implicit d (Rectangular rank) = refl
zero_implicit d (Sparse rank) = (pos 0, refl, zero_fits)
zero_implicit d (Associative type) = refl

array_added : (s t : Cells) (a d : Name) (over : DomainKind) (is : List Index) → is_name a ≡ true → IsWellFormed s → get s (Object a) ≡ None →
    domain_at s d ≡ Some over → ((i : Index) → get s (index_cell (kind_of over) d i) ≡ present_if (has is i)) → HasNewArray s t a d (kind_of over) is →
    IsWellFormed t
array_added s t a d over is named h free there inside k =
    let kind : Kind = kind_of over in
    let x : Value = Array d kind in
    let same_domain : (n : Name) → domain_at t n ≡ domain_at s n = stays s t a x free k.object domain_in refl in
    record {
      names = names_kept s t a x free k.object h named;
      objects = objects_kept s t a x free k.object h (ap (option_map kind_of) (domains_stay s t a x free k.object d over there));
      shapes = λ n. rw (same_domain n, k.shape n) (h.shapes n);
      insides = λ n i. rw (k.inside n i, k.shape n) (h.insides n i);
      members = λ n i. rw (same_domain n, k.member n i) (IsMember-same s t (λ e j was. k.inside e j ∙ was) (domain_at s n) i (get s (Member n i))
          (h.members n i));
      mappings = λ n. rw (same_domain n, k.mapping n) (h.mappings n);
      uses = λ e n. rw (k.used e n, k.object n) (elim (is_same_name n a) as
          (λ b. is_same_name n a ≡ b → cond (b && is_same_name e d) (Some (Bound Array)) (get s (Use e n)) ≡ use_of e (cond b (Some x) (get s (Object n)))) [
            | true ↦ λ same. bound (is_same_name e d) (get s (Use e n)) (h.uses e n ∙ ap (use_of e) (was_free s t a x free k.object n same))
            | false ↦ λ same. h.uses e n
          ] refl);
      implicits = λ n. rw (k.object n, k.implicit n) (elim (is_same_name n a) as
          (λ b. IsImplicit (array_in (cond b (Some x) (get s (Object n)))) (cond b (Some (Number (pos 0))) (get s (Implicit n)))) [
            | true ↦ zero_implicit d kind
            | false ↦ h.implicits n
          ]);
      elements = λ n i. rw (k.object n, k.element n i) (elim (is_same_name n a) as
          (λ b. is_same_name n a ≡ b → IsElement (is_index_of_array t (array_in (cond b (Some x) (get s (Object n)))) i)
          (cond (b && has is i) (Some (Number (pos 0))) (get s (Element n i)))) [
            | true ↦ λ same. rw (index_cell_same s t kind d i (k.inside d i) (k.member d i), inside i)
                (zeros (has is i) (get s (Element n i)) (no_element s h n (was_free s t a x free k.object n same) i))
            | false ↦ λ same. rw (indices_same s t (array_at s n) i (λ e of is. index_cell_same s t of e i (k.inside e i) (k.member e i))) (h.elements n i)
          ] refl);
    }

pub array_kept : (s : Cells) (a d : Name) → is_name a ≡ true → IsWellFormed s → Keeps (array a d) s
array_kept s a d named h =
    let last : DomainKind → Tree = λ kind. domain_indices d kind (λ is. write (new_array_changes a d (kind_of kind) is)) in
    keeps_read s (Object a) (λ v. judged (is_free v) (λ x. domain_named d last)) (λ v was.
    keeps_judged s (is_free v) (λ x. domain_named d last) h (λ x ok.
    keeps_read s (Object d) (λ w. judged (domain_kind w) last) (λ w is.
    keeps_judged s (domain_kind w) last h (λ kind found.
    let there : get s (Object d) ≡ Some (Domain kind) = is ∙ domain_is w kind found in
    keeps_indices s d kind (λ is. write (new_array_changes a d (kind_of kind) is)) h there (λ is listed.
    array_added s (apply (new_array_changes a d (kind_of kind) is) s) a d kind is named h (was ∙ free_is v x ok) (ap domain_in there) listed
    (has_new_array s a d (kind_of kind) is))))))
