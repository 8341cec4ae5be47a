-- The end of an index of a sparse or associative domain keeps a workbook well formed.
use Rattle.std.proofs.Common.{◌≡◌, [], ◌∷◌, Some, None, ap, ◌∙◌, arith}
use Rattle.std.specs.List.{Contains}
use Rattle.wb_cells.specs.declared.cells.cell.Cell.TheVariants.{Object, Member}
use Rattle.wb_cells.specs.declared.cells.kind.DomainKind.{DomainKind}
use Rattle.wb_cells.specs.declared.values.index.Index.{Index}
use Rattle.wb_cells.specs.Cells.{Name, Cells}
use Rattle.wb_cells.specs.Kinds.{kind_of}
use Rattle.wb_cells.specs.WellFormed.{IsWellFormed, domain_in, domain_at}
use Rattle.wb_reshape.proofs.Fills.{arrays, zeros_fill}
use Rattle.wb_reshape.proofs.Sets.{keeps_sets}
use Rattle.wb_edit.specs.Commands.{remove, remove_if}
use Rattle.wb_edit.specs.Trees.{Tree, judged, read}
use Rattle.wb_edit.specs.Resizing.{has_members, with_members, zeros}
use Rattle.wb_edit.specs.Looks.{domain_kind, fits, index_fits}
use Rattle.wb_edit.proofs.Kept.Resized.{members_of}
use Rattle.wb_edit.proofs.Kept.Steps.{Keeps, keeps_read, keeps_judged, domain_is}

nothing_in : {X : Type 0} (x : X) → Contains [] x → ⊥
nothing_in x there = let low = there.1 in omega (arith, low)

pub remove_kept : (s : Cells) (d : Name) (i : Index) → IsWellFormed s → Keeps (remove d i) s
remove_kept s d i h =
    let last : DomainKind → Tree = λ kind. read (Member d i) (λ there. remove_if there d kind i) in
    let keyed : DomainKind → Tree = λ kind. index_fits (kind_of kind) i (λ x. last kind) in
    keeps_read s (Object d) (λ v. judged (domain_kind v) (λ kind. with_members kind (λ x. keyed kind))) (λ v is.
    keeps_judged s (domain_kind v) (λ kind. with_members kind (λ x. keyed kind)) h (λ kind found.
    keeps_judged s (has_members kind) (λ x. keyed kind) h (λ x set.
    keeps_judged s (fits (kind_of kind) i) (λ x. last kind) h (λ y ok.
    keeps_read s (Member d i) (λ there. remove_if there d kind i) (λ there _.
    let over : domain_at s d ≡ Some kind = ap domain_in (is ∙ domain_is v kind found) in
    elim there as (λ o. Keeps (remove_if o d kind i) s) [
      | None ↦ h
      | Some w ↦ keeps_sets s d kind (zeros (arrays s d)) (i ∷ []) [] h over (members_of kind x set) (zeros_fill s d) (λ j among. absurd (nothing_in j among))
    ])))))
