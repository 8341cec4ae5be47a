-- What a look at the indices of a domain lets through: exactly those that are in it.
use Rattle.std.proofs.Common.{◌≡◌, List, Some, sym, ap, subst, ◌∙◌}
use Rattle.std.specs.FinMap.{get}
use Rattle.std.specs.List.{filter_map}
use Rattle.wb_cells.specs.declared.cells.cell.Cell.TheVariants.{Object, Shape}
use Rattle.wb_cells.specs.declared.cells.kind.DomainKind.{DomainKind}
use Rattle.wb_cells.specs.declared.cells.kind.DomainKind.TheVariants.{Rectangular, Sparse, Associative}
use Rattle.wb_cells.specs.declared.cells.pattern.Pattern.TheVariants.{Members}
use Rattle.wb_cells.specs.declared.cells.value.Value.TheVariants.{Domain}
use Rattle.wb_cells.specs.declared.values.index.Index.{Index}
use Rattle.wb_cells.specs.Cells.{Name, Cells}
use Rattle.wb_cells.specs.Kinds.{kind_of}
use Rattle.wb_cells.specs.Readers.{seen}
use Rattle.wb_cells.specs.Shapes.{indices}
use Rattle.wb_cells.specs.WellFormed.{IsWellFormed, has, present_if, inside_of, ranges_in, domain_at, index_cell}
use Rattle.wb_reshape.proofs.States.{shape_of_domain}
use Rattle.wb_edit.specs.Trees.{Tree}
use Rattle.wb_edit.specs.Looks.{member_in, indices_of, domain_indices}
use Rattle.wb_edit.proofs.Members.{members_found}
use Rattle.wb_edit.proofs.Kept.Steps.{Keeps, keeps_read}

-- the list has exactly the indices of the domain
abbrev pub AreIndices : Cells → DomainKind → Name → List Index → Type 0
AreIndices s kind d is = (i : Index) → get s (index_cell (kind_of kind) d i) ≡ present_if (has is i)

pub keeps_indices : (s : Cells) (d : Name) (kind : DomainKind) (next : List Index → Tree) → IsWellFormed s → get s (Object d) ≡ Some (Domain kind) →
    ((is : List Index) → AreIndices s kind d is → Keeps (next is) s) → Keeps (domain_indices d kind next) s
keeps_indices s d (Rectangular rank) next h there kept =
    let shape = shape_of_domain s h d rank there in
    keeps_read s (Shape d) (λ v. next (indices_of (ranges_in v))) (λ v is.
    subst (λ o. Keeps (next (indices_of (ranges_in o))) s) (sym shape.1 ∙ is) (
    kept (indices shape.0) (λ i. h.insides d i ∙ ap (λ o. inside_of (ranges_in o) i) shape.1)))
keeps_indices s d (Sparse parent rank) next h there kept = kept (filter_map member_in (seen s (Members d)))
    (λ i. members_found s d (domain_at s d) i (h.members d i))
keeps_indices s d (Associative type) next h there kept = kept (filter_map member_in (seen s (Members d)))
    (λ i. members_found s d (domain_at s d) i (h.members d i))
