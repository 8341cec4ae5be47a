-- A new associative domain keeps a workbook well formed.
use Rattle.std.proofs.Common.{◌≡◌, true, [], ◌∷◌, None, refl, sym, ◌∙◌}
use Rattle.std.specs.FinMap.{get}
use Rattle.selective_undo.specs.Changes.{apply}
use Rattle.selective_undo.specs.Edit.{write}
use Rattle.wb_cells.specs.declared.cells.cell.Cell.{Cell}
use Rattle.wb_cells.specs.declared.cells.cell.Cell.TheVariants.{Object, Shape, In, Member, Mapping, Use, Implicit, Element}
use Rattle.wb_cells.specs.declared.cells.kind.DomainKind.TheVariants.{Associative}
use Rattle.wb_cells.specs.declared.cells.kind.KeyType.{KeyType}
use Rattle.wb_cells.specs.declared.cells.value.Value.TheVariants.{Domain}
use Rattle.wb_cells.specs.Names.{is_name}
use Rattle.wb_cells.specs.Cells.{Name, Cells, Changes, cell_cmp, cell_order}
use Rattle.wb_cells.specs.WellFormed.{IsWellFormed, use_of}
use Rattle.wb_edit.specs.Commands.{assoc}
use Rattle.wb_edit.specs.Trees.{judged}
use Rattle.wb_edit.specs.Looks.{is_free}
use Rattle.wb_edit.specs.Writes.{set_to}
use Rattle.wb_reshape.proofs.Gets.{after, get-apply}
use Rattle.wb_reshape.proofs.States.{stays}
use Rattle.wb_edit.proofs.Kept.NewSet.{HasNewSet, IsPlain, set_added}
use Rattle.wb_edit.proofs.Kept.Steps.{Keeps, keeps_read, keeps_judged, free_is}

plain_assoc : (type : KeyType) → IsPlain (Associative type)
plain_assoc type = record { no_ranges = λ v e. e; no_layout = λ v e. e }

pub assoc_kept : (s : Cells) (d : Name) (type : KeyType) → is_name d ≡ true → IsWellFormed s → Keeps (assoc d type) s
assoc_kept s d type named h =
    let xs : Changes = set_to (Object d) (Domain (Associative type)) ∷ [] in
    let t : Cells = apply xs s in
    let at : (c : Cell) → get t c ≡ after cell_cmp xs c (get s c) = get-apply cell_order xs s in
    let k : HasNewSet s t d (Associative type) = record {
      object = λ n. at (Object n);
      shape = λ n. at (Shape n);
      inside = λ n i. at (In n i);
      member = λ n i. at (Member n i);
      mapping = λ n. at (Mapping n);
      implicit = λ n. at (Implicit n);
      element = λ n i. at (Element n i);
    } in
    keeps_read s (Object d) (λ v. judged (is_free v) (λ x. write xs)) (λ v was.
    keeps_judged s (is_free v) (λ x. write xs) h (λ x ok.
    let free : get s (Object d) ≡ None = was ∙ free_is v x ok in
    set_added s t d (Associative type) named (plain_assoc type) h free k tt
    (λ e n. at (Use e n) ∙ h.uses e n ∙ sym (stays s t d (Domain (Associative type)) free k.object (use_of e) refl n))))
