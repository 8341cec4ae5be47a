-- A new domain with no index yet, sparse or associative: what the workbook is then, and that it stays well formed.
use Rattle.std.proofs.Common.{◌≡◌, true, false, cond, Option, Some, None, refl, ◌∙◌}
use Rattle.std.specs.FinMap.{get}
use Rattle.wb_cells.specs.declared.cells.cell.Cell.TheVariants.{Object, Shape, In, Member, Mapping, Use, Implicit, Element}
use Rattle.wb_cells.specs.declared.cells.kind.DomainKind.{DomainKind}
use Rattle.wb_cells.specs.declared.cells.value.Value.{Value}
use Rattle.wb_cells.specs.declared.cells.value.Value.TheVariants.{Domain}
use Rattle.wb_cells.specs.declared.values.index.Index.{Index}
use Rattle.wb_cells.specs.Names.{is_name}
use Rattle.wb_cells.specs.Cells.{Name, Cells, is_same_name}
use Rattle.wb_cells.specs.WellFormed.{IsWellFormed, IsObject, IsShape, IsMember, HasMapping, domain_in, array_in, use_of, domain_at, array_at}
use Rattle.wb_reshape.proofs.States.{no_shape, no_member, no_mapping, IsMember-same, index_cell_same, indices_same, was_free, stays, names_kept, objects_kept}

-- The workbook t is s with a domain and no cells of it; how it is bound is said apart.
pub record HasNewSet (s t : Cells) (d : Name) (kind : DomainKind) : Type 0 where
  pub object : (n : Name) → get t (Object n) ≡ cond (is_same_name n d) (Some (Domain kind)) (get s (Object n))
  pub shape : (n : Name) → get t (Shape n) ≡ get s (Shape n)
  pub inside : (n : Name) (i : Index) → get t (In n i) ≡ get s (In n i)
  pub member : (n : Name) (i : Index) → get t (Member n i) ≡ get s (Member n i)
  pub mapping : (n : Name) → get t (Mapping n) ≡ get s (Mapping n)
  pub implicit : (n : Name) → get t (Implicit n) ≡ get s (Implicit n)
  pub element : (n : Name) (i : Index) → get t (Element n i) ≡ get s (Element n i)

-- a kind of domain that has no ranges and no mapping
pub record IsPlain (kind : DomainKind) : Type 0 where
  pub no_ranges : (v : Option Value) → v ≡ None → IsShape (Some kind) v
  pub no_layout : (v : Option Value) → v ≡ None → HasMapping (Some kind) v

-- with a set under a free name a workbook stays well formed, where the set is bound to what its kind says
pub set_added : (s t : Cells) (d : Name) (kind : DomainKind) → is_name d ≡ true → IsPlain kind → IsWellFormed s → get s (Object d) ≡ None → HasNewSet s t d kind
    → IsObject t (Domain kind) → ((e n : Name) → get t (Use e n) ≡ use_of e (get t (Object n))) → IsWellFormed t
set_added s t d kind named plain h free k whole bound =
    let x : Value = Domain kind in
    let same_array : (a : Name) → array_at t a ≡ array_at s a = stays s t d x free k.object array_in refl in
    record {
      names = names_kept s t d x free k.object h named;
      objects = objects_kept s t d x free k.object h whole;
      shapes = λ n. rw (k.object n, k.shape n) (elim (is_same_name n d) as
          (λ b. is_same_name n d ≡ b → IsShape (domain_in (cond b (Some x) (get s (Object n)))) (get s (Shape n))) [
            | true ↦ λ e. plain.no_ranges (get s (Shape n)) (no_shape s h n (was_free s t d x free k.object n e))
            | false ↦ λ e. h.shapes n
          ] refl);
      insides = λ n i. rw (k.inside n i, k.shape n) (h.insides n i);
      members = λ n i. rw (k.object n, k.member n i) (elim (is_same_name n d) as
          (λ b. is_same_name n d ≡ b → IsMember t (domain_in (cond b (Some x) (get s (Object n)))) i (get s (Member n i))) [
            | true ↦ λ e. rw (no_member s h n (was_free s t d x free k.object n e) i) tt
            | false ↦ λ e. IsMember-same s t (λ f j was. k.inside f j ∙ was) (domain_at s n) i (get s (Member n i)) (h.members n i)
          ] refl);
      mappings = λ n. rw (k.object n, k.mapping n) (elim (is_same_name n d) as
          (λ b. is_same_name n d ≡ b → HasMapping (domain_in (cond b (Some x) (get s (Object n)))) (get s (Mapping n))) [
            | true ↦ λ e. plain.no_layout (get s (Mapping n)) (no_mapping s h n (was_free s t d x free k.object n e))
            | false ↦ λ e. h.mappings n
          ] refl);
      uses = bound;
      implicits = λ a. rw (same_array a, k.implicit a) (h.implicits a);
      elements = λ a i. rw (
        same_array a,
        k.element a i,
        indices_same s t (array_at s a) i (λ e of is. index_cell_same s t of e i (k.inside e i) (k.member e i)),
      ) (h.elements a i);
    }
