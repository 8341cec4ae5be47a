-- A new domain keeps a workbook well formed.
use Rattle.std.proofs.Common.{◌≡◌, Bool, true, false, cond, ◌&&◌, List, length, Option, Some, None, option_map, refl, sym, ap, ◌∙◌}
use Rattle.std.specs.FinMap.{get}
use Rattle.selective_undo.specs.Changes.{apply}
use Rattle.selective_undo.specs.Edit.{refuse, write}
use Rattle.wb_dist.specs.Maps.{LayoutMap}
use Rattle.wb_cells.specs.declared.cells.cell.Cell.{Cell}
use Rattle.wb_cells.specs.declared.cells.cell.Cell.TheVariants.{Object, Shape, In, Member, Mapping, Use, Implicit, Element}
use Rattle.wb_cells.specs.declared.cells.kind.DomainKind.TheVariants.{Rectangular}
use Rattle.wb_cells.specs.declared.cells.kind.Kind.{Kind}
use Rattle.wb_cells.specs.declared.cells.value.Value.{Value}
use Rattle.wb_cells.specs.declared.cells.value.Value.TheVariants.{Domain, Ranges, Mapping, Present}
use Rattle.wb_cells.specs.declared.values.index.Index.{Index}
use Rattle.wb_cells.specs.Names.{is_name}
use Rattle.wb_cells.specs.Layouts.{IsMapping, IsLayout}
use Rattle.wb_cells.specs.Shapes.{Range, indices}
use Rattle.wb_cells.specs.Cells.{Name, Cells, cell_cmp, cell_order, is_same_name}
use Rattle.wb_cells.specs.WellFormed.{IsWellFormed, IsRectangle, IsShape, IsMember, HasMapping, has, present_if, domain_in, array_in, ranges_in, inside_of}
use Rattle.wb_cells.specs.WellFormed.{use_of, domain_at, array_at, index_cell}
use Rattle.wb_cells.specs.Kinds.{kind_of}
use Rattle.wb_edit.specs.declared.asked_rectangle.AskedRectangle.{AskedRectangle}
use Rattle.wb_edit.specs.declared.asked_rectangle.AskedRectangle.TheVariants.{Ranges as Asked, Indices}
use Rattle.wb_cells.specs.declared.refusal.WhyRefused.TheVariants.{WrongKind}
use Rattle.wb_edit.specs.Commands.{domain, new_domain_changes}
use Rattle.wb_edit.specs.Valid.{IsAsked}
use Rattle.wb_edit.specs.Looks.{is_free}
use Rattle.wb_edit.specs.Layouts.{for_rank, mapped}
use Rattle.wb_edit.specs.Trees.{Tree, judged, plain}
use Rattle.wb_edit.proofs.Layouts.{mapping_for}
use Rattle.wb_reshape.proofs.Gets.{after, after-column, after-beside, get-apply}
use Rattle.wb_reshape.proofs.States.{in_column, domain_of_array, of_kind, no_inside, no_member, IsMember-same, index_cell_same, indices_same, was_free, apart}
use Rattle.wb_reshape.proofs.States.{stays, names_kept, objects_kept}
use Rattle.wb_edit.proofs.Kept.Steps.{Keeps, keeps_read, keeps_judged, free_is}

-- The workbook t is s with a domain of these ranges and this mapping.
record HasNewDomain (s t : Cells) (d : Name) (rs : List Range) (m : LayoutMap) : Type 0 where
  object : (n : Name) → get t (Object n) ≡ cond (is_same_name n d) (Some (Domain (Rectangular (length rs)))) (get s (Object n))
  shape : (n : Name) → get t (Shape n) ≡ cond (is_same_name n d) (Some (Ranges rs)) (get s (Shape n))
  inside : (n : Name) (i : Index) → get t (In n i) ≡ cond (is_same_name n d && has (indices rs) i) (Some Present) (get s (In n i))
  member : (n : Name) (i : Index) → get t (Member n i) ≡ get s (Member n i)
  mapping : (n : Name) → get t (Mapping n) ≡ cond (is_same_name n d) (Some (Mapping m)) (get s (Mapping n))
  used : (e n : Name) → get t (Use e n) ≡ get s (Use e n)
  implicit : (n : Name) → get t (Implicit n) ≡ get s (Implicit n)
  element : (n : Name) (i : Index) → get t (Element n i) ≡ get s (Element n i)

has_new_domain : (s : Cells) (d : Name) (rs : List Range) (m : LayoutMap) → HasNewDomain s (apply (new_domain_changes d rs m) s) d rs m
has_new_domain s d rs m =
    let at : (c : Cell) → get (apply (new_domain_changes d rs m) s) c ≡ after cell_cmp (new_domain_changes d rs m) c (get s c) =
    get-apply cell_order (new_domain_changes d rs m) s in
    record {
      object = λ n. at (Object n) ∙ after-beside cell_cmp (In d) (indices rs) Present (Object n) _ (λ i. refl);
      shape = λ n. at (Shape n) ∙ after-beside cell_cmp (In d) (indices rs) Present (Shape n) _ (λ i. refl);
      inside = λ n i. at (In n i) ∙ after-column cell_cmp (In d) (indices rs) Present (In n i) (get s (In n i)) ∙
          ap (λ b. cond b (Some Present) (get s (In n i))) (in_column _ i (indices rs));
      member = λ n i. at (Member n i) ∙ after-beside cell_cmp (In d) (indices rs) Present (Member n i) _ (λ j. refl);
      mapping = λ n. at (Mapping n) ∙ after-beside cell_cmp (In d) (indices rs) Present (Mapping n) _ (λ i. refl);
      used = λ e n. at (Use e n) ∙ after-beside cell_cmp (In d) (indices rs) Present (Use e n) _ (λ i. refl);
      implicit = λ n. at (Implicit n) ∙ after-beside cell_cmp (In d) (indices rs) Present (Implicit n) _ (λ i. refl);
      element = λ n i. at (Element n i) ∙ after-beside cell_cmp (In d) (indices rs) Present (Element n i) _ (λ j. refl);
    }

-- present where it is said, and nothing where nothing was
present : (b : Bool) (o : Option Value) → o ≡ None → cond b (Some Present) o ≡ present_if b
present true o e = refl
present false o e = e

either : (b : Bool) → cond b (Some Present) (Some Present) ≡ Some Present
either true = refl
either false = refl

domain_added : (s t : Cells) (d : Name) (rs : List Range) (m : LayoutMap) → is_name d ≡ true → IsRectangle (length rs) rs → IsMapping (length rs) m →
    IsWellFormed s → get s (Object d) ≡ None → HasNewDomain s t d rs m → IsWellFormed t
domain_added s t d rs m named rectangle fits h free k =
    let x : Value = Domain (Rectangular (length rs)) in
    let same_array : (a : Name) → array_at t a ≡ array_at s a = stays s t d x free k.object array_in refl in
    let still : (e : Name) (i : Index) → get s (In e i) ≡ Some Present → get t (In e i) ≡ Some Present =
    λ e i there. k.inside e i ∙ ap (λ o. cond (is_same_name e d && has (indices rs) i) (Some Present) o) there ∙
    either (is_same_name e d && has (indices rs) i) in
    let elsewhere : (e : Name) (kind : Kind) (i : Index) → option_map kind_of (domain_at s e) ≡ Some kind →
    get t (index_cell kind e i) ≡ get s (index_cell kind e i) =
    λ e kind i over.
    let of = of_kind (domain_at s e) kind over in
    index_cell_same s t kind e i (k.inside e i ∙ ap (λ b. cond (b && has (indices rs) i) (Some Present) (get s (In e i)))
    (apart s t d x free k.object e of.0 of.1)) (k.member e i) in
    record {
      names = names_kept s t d x free k.object h named;
      objects = objects_kept s t d x free k.object h tt;
      shapes = λ n. rw (k.object n, k.shape n) (elim (is_same_name n d) as
          (λ b. IsShape (domain_in (cond b (Some x) (get s (Object n)))) (cond b (Some (Ranges rs)) (get s (Shape n)))) [
            | true ↦ (rs, refl, rectangle)
            | false ↦ h.shapes n
          ]);
      insides = λ n i. rw (k.inside n i, k.shape n) (elim (is_same_name n d) as
          (λ b. is_same_name n d ≡ b → cond (b && has (indices rs) i) (Some Present) (get s (In n i)) ≡ inside_of
          (ranges_in (cond b (Some (Ranges rs)) (get s (Shape n)))) i) [
            | true ↦ λ e. present (has (indices rs) i) (get s (In n i)) (no_inside s h n (was_free s t d x free k.object n e) i)
            | false ↦ λ e. h.insides n i
          ] refl);
      members = λ n i. rw (k.object n, k.member n i) (elim (is_same_name n d) as
          (λ b. is_same_name n d ≡ b → IsMember t (domain_in (cond b (Some x) (get s (Object n)))) i (get s (Member n i))) [
            | true ↦ λ e. rw (no_member s h n (was_free s t d x free k.object n e) i) tt
            | false ↦ λ e. IsMember-same s t still (domain_at s n) i (get s (Member n i)) (h.members n i)
          ] refl);
      mappings = λ n. rw (k.object n, k.mapping n) (elim (is_same_name n d) as
          (λ b. HasMapping (domain_in (cond b (Some x) (get s (Object n)))) (cond b (Some (Mapping m)) (get s (Mapping n)))) [
            | true ↦ (m, refl, fits)
            | false ↦ h.mappings n
          ]);
      uses = λ e n. k.used e n ∙ h.uses e n ∙ sym (stays s t d x free k.object (use_of e) refl n);
      implicits = λ a. rw (same_array a, k.implicit a) (h.implicits a);
      elements = λ a i. rw (
        same_array a,
        k.element a i,
        indices_same s t (array_at s a) i (λ e kind is. elsewhere e kind i (domain_of_array s h a e kind is)),
      ) (h.elements a i);
    }

pub domain_kept : (s : Cells) (d : Name) (asked : AskedRectangle) (m : LayoutMap) → (is_name d ≡ true) × IsAsked asked × IsLayout m → IsWellFormed s →
    Keeps (domain d asked m) s
domain_kept s d Indices m valid h =
    let last : Unit {0} → Tree = λ unit. refuse (plain WrongKind) in
    keeps_read s (Object d) (λ v. judged (is_free v) last) (λ v is. keeps_judged s (is_free v) last h (λ unit found. h))
domain_kept s d (Asked rs) m valid h =
    keeps_read s (Object d) (λ v. judged (is_free v) (λ x. mapped (length rs) m (λ y. write (new_domain_changes d rs m)))) (λ v is.
    keeps_judged s (is_free v) (λ x. mapped (length rs) m (λ y. write (new_domain_changes d rs m))) h (λ x ok.
    keeps_judged s (for_rank (length rs) m) (λ y. write (new_domain_changes d rs m)) h (λ y matched.
    let fits = mapping_for (length rs) m y valid.1.at_least_one valid.1.at_most_three valid.2 matched in
    domain_added s (apply (new_domain_changes d rs m) s) d rs m valid.0 valid.1 fits h (is ∙ free_is v x ok) (has_new_domain s d rs m))))
