-- A new mapping keeps a workbook well formed.
use Rattle.std.proofs.Common.{◌≡◌, ℕ, true, false, cond, [], ◌∷◌, Some, refl, sym, ap, ◌∙◌, subst}
use Rattle.std.specs.Ordering.{eq_by_cmp}
use Rattle.std.specs.FinMap.{get, insert}
use Rattle.selective_undo.specs.Edit.{write}
use Rattle.wb_dist.specs.Maps.{LayoutMap}
use Rattle.wb_cells.specs.declared.cells.cell.Cell.{Cell}
use Rattle.wb_cells.specs.declared.cells.cell.Cell.TheVariants.{Object, Shape, In, Member, Mapping, Use, Implicit, Element}
use Rattle.wb_cells.specs.declared.cells.kind.DomainKind.TheVariants.{Rectangular}
use Rattle.wb_cells.specs.declared.cells.value.Value.TheVariants.{Domain, Mapping}
use Rattle.wb_cells.specs.declared.values.index.Index.{Index}
use Rattle.wb_cells.specs.Cells.{Name, Cells, cell_cmp, cell_order}
use Rattle.wb_cells.specs.Layouts.{IsMapping, IsLayout}
use Rattle.wb_cells.specs.WellFormed.{IsWellFormed, HasMapping, domain_in, domain_at, array_at}
use Rattle.wb_edit.specs.Commands.{remap}
use Rattle.wb_edit.specs.Kinds.{rank_of, rectangular}
use Rattle.wb_edit.specs.Layouts.{for_rank, mapped}
use Rattle.wb_edit.specs.Trees.{Tree, judged}
use Rattle.wb_edit.specs.Looks.{domain_kind}
use Rattle.wb_edit.specs.Writes.{set_to}
use Rattle.wb_reshape.proofs.Gets.{same_key, get-apply}
use Rattle.wb_edit.proofs.Layouts.{kind_is, mapping_for}
use Rattle.wb_reshape.proofs.States.{IsObject-same, IsMember-same, index_cell_same, indices_same, shape_of_domain}
use Rattle.wb_edit.proofs.Kept.Steps.{Keeps, keeps_read, keeps_judged, domain_is}

same_domain : (n d : Name) → ◌≡◌ {A = Cell} (Mapping n) (Mapping d) → n ≡ d
same_domain n d e = cc

-- a rectangular domain gets a mapping for its rank
mapping_set : (s : Cells) (d : Name) (m : LayoutMap) (rank : ℕ) → IsWellFormed s → get s (Object d) ≡ Some (Domain (Rectangular rank)) → IsMapping rank m →
    IsWellFormed (insert s (Mapping d) (Mapping m))
mapping_set s d m rank h there fits =
    let t : Cells = insert s (Mapping d) (Mapping m) in
    let at : (c : Cell) → get t c ≡ cond (eq_by_cmp cell_cmp c (Mapping d)) (Some (Mapping m)) (get s c) =
    get-apply cell_order (set_to (Mapping d) (Mapping m) ∷ []) s in
    let object : (n : Name) → get t (Object n) ≡ get s (Object n) = λ n. at (Object n) in
    let inside : (n : Name) (j : Index) → get t (In n j) ≡ get s (In n j) = λ n j. at (In n j) in
    let member : (n : Name) (j : Index) → get t (Member n j) ≡ get s (Member n j) = λ n j. at (Member n j) in
    record {
      names = λ n w e. h.names n w (sym (object n) ∙ e);
      objects = λ n w e. IsObject-same s t (λ d kind old. rw (object d) old) w (h.objects n w (sym (object n) ∙ e));
      shapes = λ n. rw (object n, at (Shape n)) (h.shapes n);
      insides = λ n j. rw (inside n j, at (Shape n)) (h.insides n j);
      members = λ n j. rw (object n, member n j) (IsMember-same s t (λ e i there. inside e i ∙ there) (domain_at s n) j (get s (Member n j)) (h.members n j));
      mappings = λ n. rw (object n, at (Mapping n)) (
          elim (eq_by_cmp cell_cmp (Mapping n) (Mapping d)) as (λ k. eq_by_cmp cell_cmp (Mapping n) (Mapping d) ≡ k →
          HasMapping (domain_at s n) (cond k (Some (Mapping m)) (get s (Mapping n)))) [
            | true ↦ λ e.
                let same : n ≡ d = same_domain n d (same_key cell_order (Mapping n) (Mapping d) e) in
                let found : get s (Object n) ≡ Some (Domain (Rectangular rank)) = ap (λ o. get s (Object o)) same ∙ there in
                subst (λ o. HasMapping (domain_in o) (Some (Mapping m))) (sym found) (m, refl, fits)
            | false ↦ λ e. h.mappings n
          ] refl);
      uses = λ e n. rw (at (Use e n), object n) (h.uses e n);
      implicits = λ b. rw (object b, at (Implicit b)) (h.implicits b);
      elements = λ b j. rw (
        object b,
        indices_same s t (array_at s b) j (λ e kind is. index_cell_same s t kind e j (inside e j) (member e j)),
        at (Element b j),
      ) (h.elements b j);
    }

pub remap_kept : (s : Cells) (d : Name) (m : LayoutMap) → IsLayout m → IsWellFormed s → Keeps (remap d m) s
remap_kept s d m valid h =
    let last : Tree = write (set_to (Mapping d) (Mapping m) ∷ []) in
    let ranked : ℕ → Tree = λ rank. mapped rank m (λ x. last) in
    keeps_read s (Object d) (λ v. judged (domain_kind v) (λ kind. rectangular kind ranked)) (λ v is.
    keeps_judged s (domain_kind v) (λ kind. rectangular kind ranked) h (λ kind found.
    keeps_judged s (rank_of kind) ranked h (λ rank ranks.
    keeps_judged s (for_rank rank m) (λ x. last) h (λ x fits.
    let there : get s (Object d) ≡ Some (Domain (Rectangular rank)) = is ∙ domain_is v kind found ∙ ap (λ k. Some (Domain k)) (kind_is kind rank ranks) in
    let shape = shape_of_domain s h d rank there in
    mapping_set s d m rank h there (mapping_for rank m x shape.2.at_least_one shape.2.at_most_three valid fits)))))
