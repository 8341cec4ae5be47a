-- A new index of a sparse or associative domain keeps a workbook well formed.
use Rattle.std.proofs.Common.{◌≡◌, [], ◌∷◌, Some, None, ap, ◌∙◌}
use Rattle.wb_cells.specs.declared.cells.cell.Cell.TheVariants.{Object, Member}
use Rattle.wb_cells.specs.declared.cells.kind.DomainKind.{DomainKind}
use Rattle.wb_cells.specs.declared.values.index.Index.{Index}
use Rattle.wb_cells.specs.Cells.{Name, Cells}
use Rattle.wb_cells.specs.Kinds.{kind_of, IsIndex}
use Rattle.wb_cells.specs.WellFormed.{IsWellFormed, domain_in, domain_at}
use Rattle.wb_edit.specs.Commands.{add, add_unless}
use Rattle.wb_edit.specs.Trees.{Tree, judged, read}
use Rattle.wb_edit.specs.Resizing.{has_members, with_members}
use Rattle.wb_edit.specs.Looks.{domain_kind, fits, index_fits}
use Rattle.wb_edit.proofs.Kept.Resized.{members_of, IsKeyOf, key_of, holds_at, resized_kept, fits_is}
use Rattle.wb_edit.proofs.Kept.Steps.{Keeps, keeps_read, keeps_judged, domain_is}

pub add_kept : (s : Cells) (d : Name) (i : Index) → IsIndex i → IsWellFormed s → Keeps (add d i) s
add_kept s d i valid h =
    let last : DomainKind → Tree = λ kind. read (Member d i) (λ there. add_unless there d kind i) in
    let keyed : DomainKind → Tree = λ kind. index_fits (kind_of kind) i (λ x. last kind) in
    keeps_read s (Object d) (λ v. judged (domain_kind v) (λ kind. with_members kind (λ x. keyed kind))) (λ v is.
    keeps_judged s (domain_kind v) (λ kind. with_members kind (λ x. keyed kind)) h (λ kind found.
    keeps_judged s (has_members kind) (λ x. keyed kind) h (λ x set.
    keeps_judged s (fits (kind_of kind) i) (λ x. last kind) h (λ y ok.
    keeps_read s (Member d i) (λ there. add_unless there d kind i) (λ there _.
    let over : domain_at s d ≡ Some kind = ap domain_in (is ∙ domain_is v kind found) in
    elim there as (λ o. Keeps (add_unless o d kind i) s) [
      | Some w ↦ h
      | None ↦ resized_kept s d kind (i ∷ []) [] (i ∷ []) h over (members_of kind x set)
          (λ j comes. (comes, holds_at (IsKeyOf kind) (i ∷ []) j (key_of kind i (fits_is (kind_of kind) i y ok) valid, tt) comes))
    ])))))
