use Rattle.std.proofs.Common.{◌++◌, map, sym, subst, ◌∙◌}
use Rattle.selective_undo.specs.Edit.{write}
use Rattle.wb_cells.specs.declared.cells.kind.DomainKind.{DomainKind}
use Rattle.wb_cells.specs.Kinds.{kind_of}
use Rattle.wb_cells.specs.WellFormed.{index_cell}
use Rattle.wb_reshape.specs.Writes.{clear_all}
use Rattle.wb_edit.specs.Commands.{cells_beside_indices, dropped_domain_cells}
use Rattle.wb_edit.specs.Looks.{domain_indices}
use Rattle.wb_edit.specs.Plans.{Attempts}
use Rattle.wb_edit.proofs.commands.drop_domain.plan_dropped.Goals as goal

pub returns-in-Rectangular : goal.returns-in-Rectangular
returns-in-Rectangular c =
    let d = c.args.domain in
    subst (λ (k : DomainKind). Attempts (domain_indices d k (λ is. write (dropped_domain_cells d c.args.kind.now is)))
    c.args.book.now.cells c.args.footprint.now c.plan_drop_points.result c.plan_drop_points.new.footprint)
    (sym c.in-Rectangular.is ∙ c.domain_kind.ensures) c.plan_drop_points.ensures

pub returns-in-Sparse : goal.returns-in-Sparse
returns-in-Sparse c =
    let d = c.args.domain in
    subst (λ (k : DomainKind). Attempts
    (domain_indices d k (λ is. write (clear_all (cells_beside_indices d c.args.kind.now) ++ clear_all (map (index_cell (kind_of k) d) is))))
    c.args.book.now.cells c.args.footprint.now c.plan_drop_members.result c.plan_drop_members.new.footprint)
    (sym c.in-Sparse.is ∙ c.domain_kind.ensures) c.plan_drop_members.ensures

pub returns-in-Associative : goal.returns-in-Associative
returns-in-Associative c =
    let d = c.args.domain in
    subst (λ (k : DomainKind). Attempts
    (domain_indices d k (λ is. write (clear_all (cells_beside_indices d c.args.kind.now) ++ clear_all (map (index_cell (kind_of k) d) is))))
    c.args.book.now.cells c.args.footprint.now c.plan_drop_members-in-Associative.result c.plan_drop_members-in-Associative.new.footprint)
    (sym c.in-Associative.is ∙ c.domain_kind.ensures) c.plan_drop_members-in-Associative.ensures
