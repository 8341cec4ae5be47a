-- New indices of a sparse or associative domain keep a workbook well formed.
use Rattle.std.proofs.Common.{◌≡◌, ℤ, Bool, true, false, cond, List, Option, Some, None, refl, sym, ap, subst, ◌∙◌}
use Rattle.std.proofs.lemmas.Map.Views.{Contains-from_any}
use Rattle.std.specs.FinMap.{get}
use Rattle.std.specs.List.{Contains}
use Rattle.selective_undo.specs.Changes.{apply}
use Rattle.wb_cells.specs.declared.cells.cell.Cell.{Cell}
use Rattle.wb_cells.specs.declared.cells.cell.Cell.TheVariants.{Shape, In, Member}
use Rattle.wb_cells.specs.declared.cells.kind.DomainKind.{DomainKind}
use Rattle.wb_cells.specs.declared.cells.kind.DomainKind.TheVariants.{Rectangular, Sparse, Associative}
use Rattle.wb_cells.specs.declared.cells.value.Value.{Value}
use Rattle.wb_cells.specs.declared.cells.value.Value.TheVariants.{Present}
use Rattle.wb_cells.specs.declared.values.index.Index.{Index}
use Rattle.wb_cells.specs.Cells.{Name, Cells, Changes, cell_cmp, cell_order, is_same_name}
use Rattle.wb_cells.specs.Kinds.{kind_of}
use Rattle.wb_cells.specs.WellFormed.{IsWellFormed, IsMember, MayHave, has, domain_in, domain_at}
use Rattle.wb_reshape.specs.Laws.{AreFills, HasMembers, KeepsSets}
use Rattle.wb_reshape.specs.Resized.{resized_cells}
use Rattle.wb_reshape.proofs.Gets.{after, get-apply}
use Rattle.wb_reshape.proofs.Exchanged.{has_ranges, exchanged_at, neither-resized}
use Rattle.wb_reshape.proofs.Resized.{IsResized, is_resized, elements_kept}
use Rattle.wb_reshape.proofs.States.{same_name, same_index, IsObject-same, IsMember-same}

set_has_no_ranges : (kind : DomainKind) → HasMembers kind → has_ranges (kind_of kind) ≡ false
set_has_no_ranges (Rectangular rank) set = absurd set
set_has_no_ranges (Sparse parent rank) set = refl
set_has_no_ranges (Associative type) set = refl

exchanged_member : (s : Cells) (kind : Option DomainKind) (i : Index) (comes leaves : Bool) (o : Option Value) → (comes ≡ true → MayHave s kind i) →
    IsMember s kind i o → IsMember s kind i (cond comes (Some Present) (cond leaves None o))
exchanged_member s kind i true leaves o may old = (refl, may refl)
exchanged_member s kind i false true o may old = tt
exchanged_member s kind i false false o may old = old

set_resized : (s t : Cells) (d : Name) (kind : DomainKind) (fills : List (Name × ℤ)) (leaving coming : List Index)
    → IsWellFormed s → domain_at s d ≡ Some kind → HasMembers kind → AreFills s d fills → ((i : Index) → Contains coming i → MayHave s (Some kind) i)
    → ((n : Name) → get t (Shape n) ≡ get s (Shape n)) → IsResized s t (kind_of kind) d fills leaving coming → IsWellFormed t
set_resized s t d kind fills leaving coming h there set are may shape k =
    let inside : (n : Name) (i : Index) → get t (In n i) ≡ get s (In n i) = λ n i. rw (set_has_no_ranges kind set) at (k.inside n i) in
    let member : (n : Name) (i : Index) → get t (Member n i) ≡ cond (is_same_name n d) (exchanged_at leaving coming Present i (get s (Member n i)))
    (get s (Member n i)) = λ n i. rw (set_has_no_ranges kind set) at (k.member n i) in
    record {
      names = λ n v is. h.names n v (sym (k.object n) ∙ is);
      objects = λ n v is. IsObject-same s t (λ e other over. ap domain_in (k.object e) ∙ over) v (h.objects n v (sym (k.object n) ∙ is));
      shapes = λ n. rw (k.object n, shape n) (h.shapes n);
      insides = λ n i. rw (inside n i, shape n) (h.insides n i);
      members = λ n i.
          let v : Bool → Option Value = λ b. cond b (exchanged_at leaving coming Present i (get s (Member n i))) (get s (Member n i)) in
          let old : IsMember s (domain_at s n) i (v (is_same_name n d)) =
          elim (is_same_name n d) as (λ b. is_same_name n d ≡ b → IsMember s (domain_at s n) i (v b)) [
            | true ↦ λ same. exchanged_member s (domain_at s n) i (has coming i) (has leaving i) (get s (Member n i)) (λ comes.
                subst (λ over. MayHave s over i) (sym (ap (domain_at s) (same_name n d same) ∙ there)) (may i (Contains-from_any same_index i coming comes)))
                (h.members n i)
            | false ↦ λ same. h.members n i
          ] refl in
          rw (k.object n, member n i) (IsMember-same s t (λ e j was. inside e j ∙ was) (domain_at s n) i (v (is_same_name n d)) old);
      mappings = λ n. rw (k.object n, k.mapping n) (h.mappings n);
      uses = λ e n. rw (k.used e n, k.object n) (h.uses e n);
      implicits = λ a. rw (k.object a, k.implicit a) (h.implicits a);
      elements = elements_kept s t d kind fills leaving coming h there are k;
    }

pub keeps_sets : KeepsSets
keeps_sets s d kind fills leaving coming h there set are may =
    let xs : Changes = resized_cells (kind_of kind) d fills leaving coming in
    let at : (c : Cell) → get (apply xs s) c ≡ after cell_cmp xs c (get s c) = get-apply cell_order xs s in
    set_resized s (apply xs s) d kind fills leaving coming h there set are may
    (λ n. at (Shape n) ∙ neither-resized leaving coming (kind_of kind) d fills (Shape n) (get s (Shape n)) (λ a i. refl) (λ i. refl) (λ i. refl))
    (is_resized s (apply xs s) (kind_of kind) d fills leaving coming (λ c other. at c))
