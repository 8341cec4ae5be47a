-- A new implicit value keeps a workbook well formed.
use Rattle.std.proofs.Common.{◌≡◌, true, false, cond, [], ◌∷◌, Some, ℤ, Ok, FitsSigned, refl, sym, ap, subst, ◌∙◌}
use Rattle.std.specs.Int.{w64}
use Rattle.std.specs.FinMap.{get, insert}
use Rattle.selective_undo.specs.Edit.{write}
use Rattle.wb_cells.specs.declared.cells.cell.Cell.TheVariants.{Object, Shape, In, Member, Mapping, Use, Implicit, Element}
use Rattle.wb_cells.specs.declared.cells.kind.Kind.{Kind}
use Rattle.wb_cells.specs.declared.cells.kind.Kind.TheVariants.{Rectangular, Sparse, Associative}
use Rattle.wb_cells.specs.declared.cells.value.Value.TheVariants.{Number}
use Rattle.wb_cells.specs.declared.values.index.Index.{Index}
use Rattle.wb_cells.specs.Cells.{Name, Cells, cell_order, is_same_name}
use Rattle.wb_cells.specs.WellFormed.{IsWellFormed, IsImplicit, domain_at, array_in, array_at}
use Rattle.wb_edit.specs.Commands.{irv}
use Rattle.wb_edit.specs.Kinds.{is_sparse, over_sparse}
use Rattle.wb_edit.specs.Trees.{Tree, judged}
use Rattle.wb_edit.specs.Looks.{array_kind}
use Rattle.wb_edit.specs.Writes.{set_to}
use Rattle.wb_reshape.proofs.Gets.{get-apply}
use Rattle.wb_reshape.proofs.States.{same_name, IsObject-same, IsMember-same, index_cell_same, indices_same}
use Rattle.wb_edit.proofs.Kept.Steps.{Keeps, keeps_read, keeps_judged, array_is}

-- over a sparse domain any number of 64 bits is one
sparse_implicit : (d : Name) (kind : Kind) (x : Unit {0}) (v : ℤ) → is_sparse kind ≡ Ok x → FitsSigned w64 v → IsImplicit (Some (d, kind)) (Some (Number v))
sparse_implicit d (Rectangular rank) x v e within = cc
sparse_implicit d (Sparse rank) x v e within = (v, refl, within)
sparse_implicit d (Associative type) x v e within = cc

implicit_set : (s : Cells) (a : Name) (v : ℤ) → IsWellFormed s → IsImplicit (array_at s a) (Some (Number v)) → IsWellFormed (insert s (Implicit a) (Number v))
implicit_set s a v h fits =
    let t : Cells = insert s (Implicit a) (Number v) in
    let at = get-apply cell_order (set_to (Implicit a) (Number v) ∷ []) s in
    let object : (n : Name) → get t (Object n) ≡ get s (Object n) = λ n. at (Object n) in
    let inside : (d : Name) (j : Index) → get t (In d j) ≡ get s (In d j) = λ d j. at (In d j) in
    let member : (d : Name) (j : Index) → get t (Member d j) ≡ get s (Member d j) = λ d j. at (Member d j) in
    let implicit : (n : Name) → get t (Implicit n) ≡ cond (is_same_name n a) (Some (Number v)) (get s (Implicit n)) = λ n. at (Implicit n) in
    record {
      names = λ n w e. h.names n w (sym (object n) ∙ e);
      objects = λ n w e. IsObject-same s t (λ d kind old. rw (object d) old) w (h.objects n w (sym (object n) ∙ e));
      shapes = λ d. rw (object d, at (Shape d)) (h.shapes d);
      insides = λ d j. rw (inside d j, at (Shape d)) (h.insides d j);
      members = λ d j. rw (object d, member d j) (IsMember-same s t (λ e k there. inside e k ∙ there) (domain_at s d) j (get s (Member d j)) (h.members d j));
      mappings = λ d. rw (object d, at (Mapping d)) (h.mappings d);
      uses = λ d n. rw (at (Use d n), object n) (h.uses d n);
      implicits = λ b. rw (object b, implicit b) (elim (is_same_name b a) as
          (λ k. is_same_name b a ≡ k → IsImplicit (array_at s b) (cond k (Some (Number v)) (get s (Implicit b)))) [
            | true ↦ λ e. subst (λ n. IsImplicit (array_at s n) (Some (Number v))) (sym (same_name b a e)) fits
            | false ↦ λ e. h.implicits b
          ] refl);
      elements = λ b j. rw (
        object b,
        indices_same s t (array_at s b) j (λ d kind is. index_cell_same s t kind d j (inside d j) (member d j)),
        at (Element b j),
      ) (h.elements b j);
    }

pub irv_kept : (s : Cells) (a : Name) (v : ℤ) → FitsSigned w64 v → IsWellFormed s → Keeps (irv a v) s
irv_kept s a v within h =
    let last : Tree = write (set_to (Implicit a) (Number v) ∷ []) in
    keeps_read s (Object a) (λ o. judged (array_kind o) (λ array. over_sparse array.1 (λ x. last))) (λ o is.
    keeps_judged s (array_kind o) (λ array. over_sparse array.1 (λ x. last)) h (λ array found.
    keeps_judged s (is_sparse array.1) (λ x. last) h (λ x sparse.
    implicit_set s a v h (subst (λ o. IsImplicit o (Some (Number v))) (sym (ap array_in (is ∙ array_is o array found)))
    (sparse_implicit array.0 array.1 x v sparse within)))))
