-- The end of a domain to which nothing is bound keeps a workbook well formed.
use Rattle.std.proofs.Common.{◌≡◌, List, [], ◌∷◌, Some, Ok, refl, sym, ap, ◌∙◌}
use Rattle.std.specs.FinMap.{get}
use Rattle.std.specs.List.{filter_map}
use Rattle.selective_undo.specs.Edit.{write}
use Rattle.wb_cells.specs.declared.cells.cell.Cell.TheVariants.{Object}
use Rattle.wb_cells.specs.declared.cells.kind.DomainKind.{DomainKind}
use Rattle.wb_cells.specs.declared.cells.pattern.Pattern.TheVariants.{Uses}
use Rattle.wb_cells.specs.declared.cells.value.Binding.{Binding}
use Rattle.wb_cells.specs.declared.cells.value.Value.TheVariants.{Domain}
use Rattle.wb_cells.specs.declared.values.index.Index.{Index}
use Rattle.wb_cells.specs.Cells.{Name, Cells}
use Rattle.wb_cells.specs.Readers.{seen}
use Rattle.wb_cells.specs.WellFormed.{IsWellFormed, has, domain_in}
use Rattle.wb_reshape.proofs.Dropped.{keeps_drops}
use Rattle.wb_reshape.proofs.States.{present_is}
use Rattle.wb_reshape.proofs.Users as users
use Rattle.wb_edit.specs.Commands.{drop_domain, dropped_domain_cells}
use Rattle.wb_edit.specs.Trees.{Tree, judged}
use Rattle.wb_edit.specs.Looks.{domain_kind, domain_indices}
use Rattle.wb_edit.specs.Users.{user_in, is_unused, unused}
use Rattle.wb_edit.proofs.Kept.Indices.{keeps_indices}
use Rattle.wb_edit.proofs.Kept.Steps.{Keeps, keeps_read, keeps_judged, domain_is}

unused_is : (bound : List (Name × Binding)) (x : Unit {0}) → is_unused bound ≡ Ok x → bound ≡ []
unused_is [] x e = refl
unused_is (u ∷ us) x e = cc

pub drop_domain_kept : (s : Cells) (d : Name) → IsWellFormed s → Keeps (drop_domain d) s
drop_domain_kept s d h =
    let last : DomainKind → List Index → Tree = λ kind is. write (dropped_domain_cells d kind is) in
    let rest : DomainKind → Tree = λ kind. unused d (λ x. domain_indices d kind (last kind)) in
    keeps_read s (Object d) (λ v. judged (domain_kind v) rest) (λ v is.
    keeps_judged s (domain_kind v) rest h (λ kind found.
    keeps_judged s (is_unused (filter_map user_in (seen s (Uses d)))) (λ x. domain_indices d kind (last kind)) h (λ x ok.
    let there : get s (Object d) ≡ Some (Domain kind) = is ∙ domain_is v kind found in
    keeps_indices s d kind (last kind) h there (λ js listed.
    keeps_drops s d kind js h (ap domain_in there) (users.unused s d h (unused_is _ x ok)) (λ i present. present_is (has js i) (sym (listed i) ∙ present))))))
