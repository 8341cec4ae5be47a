-- A new value of a domain keeps a workbook well formed.
use Rattle.std.proofs.Common.{◌≡◌, Some, ap, ◌∙◌}
use Rattle.wb_cells.specs.declared.cells.cell.Cell.TheVariants.{Object}
use Rattle.wb_cells.specs.declared.cells.kind.DomainKind.{DomainKind}
use Rattle.wb_cells.specs.declared.cells.kind.DomainKind.TheVariants.{Rectangular, Sparse, Associative}
use Rattle.wb_cells.specs.Cells.{Name, Cells}
use Rattle.wb_cells.specs.WellFormed.{IsWellFormed, domain_in, domain_at}
use Rattle.selective_undo.specs.Edit.{refuse}
use Rattle.wb_reshape.specs.declared.operand.Operand.{Operand}
use Rattle.wb_reshape.specs.declared.operand.Operand.TheVariants.{Rectangle, Items, Named}
use Rattle.wb_reshape.specs.declared.new_indices.NewIndices.{NewIndices}
use Rattle.wb_reshape.specs.declared.new_indices.NewIndices.TheVariants.{To, Slice, Displace, Combine}
use Rattle.wb_cells.specs.declared.refusal.WhyRefused.TheVariants.{WrongKind}
use Rattle.wb_edit.specs.Trees.{Tree, judged, plain}
use Rattle.wb_edit.specs.Commands.Reshape.{no_source, reshape_kind, reshape}
use Rattle.wb_edit.specs.Looks.{domain_kind}
use Rattle.wb_edit.specs.ValidSources.{AreNewIndices}
use Rattle.wb_edit.proofs.Kept.ReshapeSet.{to_set_kept, combine_set_kept}
use Rattle.wb_edit.proofs.Kept.ReshapeRectangle.{to_rectangle_kept, slice_rectangle_kept, displace_rectangle_kept}
use Rattle.wb_edit.proofs.Kept.Steps.{Keeps, keeps_read, keeps_judged, domain_is}

no_source_kept : (s : Cells) (given : Operand) → IsWellFormed s → Keeps (no_source given) s
no_source_kept s (Rectangle rs) h = h
no_source_kept s (Items is) h = h
no_source_kept s (Named e) h =
    let last : DomainKind → Tree = λ kind. refuse (plain WrongKind) in
    keeps_read s (Object e) (λ v. judged (domain_kind v) last) (λ v is. keeps_judged s (domain_kind v) last h (λ kind found. h))

kind_kept : (s : Cells) (d : Name) (kind : DomainKind) (source : NewIndices) → AreNewIndices source → IsWellFormed s → domain_at s d ≡ Some kind →
    Keeps (reshape_kind d kind source) s
kind_kept s d (Rectangular rank) (To given) valid h there = to_rectangle_kept s d rank h there given valid
kind_kept s d (Rectangular rank) (Slice given) valid h there = slice_rectangle_kept s d rank h there given valid
kind_kept s d (Rectangular rank) (Displace how offsets) valid h there = displace_rectangle_kept s d rank h there how offsets
kind_kept s d (Rectangular rank) (Combine how given) valid h there = no_source_kept s given h
kind_kept s d (Sparse parent rank) (To given) valid h there = to_set_kept s h d (Sparse parent rank) there tt given valid
kind_kept s d (Sparse parent rank) (Slice given) valid h there = no_source_kept s given h
kind_kept s d (Sparse parent rank) (Displace how offsets) valid h there = h
kind_kept s d (Sparse parent rank) (Combine how given) valid h there = no_source_kept s given h
kind_kept s d (Associative type) (To given) valid h there = to_set_kept s h d (Associative type) there tt given valid
kind_kept s d (Associative type) (Slice given) valid h there = no_source_kept s given h
kind_kept s d (Associative type) (Displace how offsets) valid h there = h
kind_kept s d (Associative type) (Combine how given) valid h there = combine_set_kept s h d (Associative type) there tt given valid how

pub reshape_kept : (s : Cells) (d : Name) (source : NewIndices) → AreNewIndices source → IsWellFormed s → Keeps (reshape d source) s
reshape_kept s d source valid h =
    keeps_read s (Object d) (λ v. judged (domain_kind v) (λ kind. reshape_kind d kind source)) (λ v is.
    keeps_judged s (domain_kind v) (λ kind. reshape_kind d kind source) h (λ kind found.
    kind_kept s d kind source valid h (ap domain_in (is ∙ domain_is v kind found))))
