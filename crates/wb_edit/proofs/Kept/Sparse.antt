-- A new sparse domain keeps a workbook well formed.
use Rattle.std.proofs.Common.{◌≡◌, ℕ, Bool, true, false, cond, ◌&&◌, [], ◌∷◌, Option, Some, None, refl, ap, ◌∙◌}
use Rattle.std.specs.FinMap.{get}
use Rattle.selective_undo.specs.Changes.{apply}
use Rattle.selective_undo.specs.Edit.{write}
use Rattle.wb_cells.specs.declared.cells.cell.Cell.{Cell}
use Rattle.wb_cells.specs.declared.cells.cell.Cell.TheVariants.{Object, Shape, In, Member, Mapping, Use, Implicit, Element}
use Rattle.wb_cells.specs.declared.cells.kind.DomainKind.{DomainKind}
use Rattle.wb_cells.specs.declared.cells.kind.DomainKind.TheVariants.{Rectangular, Sparse}
use Rattle.wb_cells.specs.declared.cells.value.Binding.TheVariants.{Sparse}
use Rattle.wb_cells.specs.declared.cells.value.Value.{Value}
use Rattle.wb_cells.specs.declared.cells.value.Value.TheVariants.{Domain, Bound}
use Rattle.wb_cells.specs.Names.{is_name}
use Rattle.wb_cells.specs.Cells.{Name, Cells, Changes, cell_cmp, cell_order, is_same_name}
use Rattle.wb_cells.specs.WellFormed.{IsWellFormed, domain_in, use_of, domain_at}
use Rattle.wb_edit.specs.Commands.{sparse}
use Rattle.wb_edit.specs.Kinds.{rank_of, rectangular}
use Rattle.wb_edit.specs.Trees.{Tree, judged}
use Rattle.wb_edit.specs.Looks.{is_free, domain_kind, domain_named}
use Rattle.wb_edit.specs.Writes.{set_to}
use Rattle.wb_reshape.proofs.Gets.{after, get-apply}
use Rattle.wb_edit.proofs.Layouts.{kind_is}
use Rattle.wb_reshape.proofs.States.{second_first, was_free, domains_stay}
use Rattle.wb_edit.proofs.Kept.NewSet.{HasNewSet, IsPlain, set_added}
use Rattle.wb_edit.proofs.Kept.Steps.{Keeps, keeps_read, keeps_judged, free_is, domain_is}

abbrev sparse_cells : Name → Name → ℕ → Changes
sparse_cells d parent rank = set_to (Object d) (Domain (Sparse parent rank)) ∷ set_to (Use parent d) (Bound Sparse) ∷ []

has_new_sparse : (s : Cells) (d parent : Name) (rank : ℕ) → HasNewSet s (apply (sparse_cells d parent rank) s) d (Sparse parent rank)
has_new_sparse s d parent rank =
    let at : (c : Cell) → get (apply (sparse_cells d parent rank) s) c ≡ after cell_cmp (sparse_cells d parent rank) c (get s c) =
    get-apply cell_order (sparse_cells d parent rank) s in
    record {
      object = λ n. at (Object n);
      shape = λ n. at (Shape n);
      inside = λ n i. at (In n i);
      member = λ n i. at (Member n i);
      mapping = λ n. at (Mapping n);
      implicit = λ n. at (Implicit n);
      element = λ n i. at (Element n i);
    }

plain_sparse : (parent : Name) (rank : ℕ) → IsPlain (Sparse parent rank)
plain_sparse parent rank = record { no_ranges = λ v e. e; no_layout = λ v e. e }

as_bound : (b : Bool) (o : Option Value) → o ≡ None → cond b (Some (Bound Sparse)) o ≡ elim b [ true ↦ Some (Bound Sparse) | false ↦ None ]
as_bound true o e = refl
as_bound false o e = e

sparse_bound : (s t : Cells) (d parent : Name) (rank : ℕ) → IsWellFormed s → get s (Object d) ≡ None → HasNewSet s t d (Sparse parent rank)
    → ((e n : Name) → get t (Use e n) ≡ cond (is_same_name n d && is_same_name e parent) (Some (Bound Sparse)) (get s (Use e n))) → (e n : Name) →
    get t (Use e n) ≡ use_of e (get t (Object n))
sparse_bound s t d parent rank h free k used e n =
    let x : Value = Domain (Sparse parent rank) in
    rw (used e n, k.object n) (elim (is_same_name n d) as (λ b. is_same_name n d ≡ b →
    cond (b && is_same_name e parent) (Some (Bound Sparse)) (get s (Use e n)) ≡ use_of e (cond b (Some x) (get s (Object n)))) [
      | true ↦ λ same. as_bound (is_same_name e parent) (get s (Use e n)) (h.uses e n ∙ ap (use_of e) (was_free s t d x free k.object n same))
      | false ↦ λ same. h.uses e n
    ] refl)

pub sparse_kept : (s : Cells) (d parent : Name) → is_name d ≡ true → IsWellFormed s → Keeps (sparse d parent) s
sparse_kept s d parent named h =
    let last : ℕ → Tree = λ rank. write (sparse_cells d parent rank) in
    let ranked : DomainKind → Tree = λ kind. rectangular kind last in
    keeps_read s (Object d) (λ v. judged (is_free v) (λ x. domain_named parent ranked)) (λ v was.
    keeps_judged s (is_free v) (λ x. domain_named parent ranked) h (λ x ok.
    keeps_read s (Object parent) (λ w. judged (domain_kind w) ranked) (λ w is.
    keeps_judged s (domain_kind w) ranked h (λ kind found.
    keeps_judged s (rank_of kind) last h (λ rank ranks.
    let t : Cells = apply (sparse_cells d parent rank) s in
    let free : get s (Object d) ≡ None = was ∙ free_is v x ok in
    let k = has_new_sparse s d parent rank in
    let over : domain_at s parent ≡ Some (Rectangular rank) = ap domain_in (is ∙ domain_is w kind found) ∙ ap Some (kind_is kind rank ranks) in
    set_added s t d (Sparse parent rank) named (plain_sparse parent rank) h free k
    (domains_stay s t d (Domain (Sparse parent rank)) free k.object parent (Rectangular rank) over)
    (sparse_bound s t d parent rank h free k (λ e n. get-apply cell_order (sparse_cells d parent rank) s (Use e n) ∙
    ap (λ b. cond b (Some (Bound Sparse)) (get s (Use e n))) (second_first _ _))))))))
