use Rattle.std.proofs.Common.{List}
use Rattle.std.proofs.lemmas.Result.{err_from_is_err_and}
use Rattle.selective_undo.specs.Edit.{write}
use Rattle.wb_cells.specs.declared.cells.kind.DomainKind.{DomainKind}
use Rattle.wb_cells.specs.declared.values.index.Index.{Index}
use Rattle.wb_cells.specs.Cells.{Name}
use Rattle.wb_edit.specs.Commands.{dropped_domain_cells}
use Rattle.wb_edit.specs.Looks.{points}
use Rattle.wb_edit.specs.Plans.{indices_in}
use Rattle.wb_edit.specs.Trees.{Tree}
use Rattle.wb_edit.proofs.Attempts.{goes_on, stops, ends}
use Rattle.wb_edit.proofs.commands.drop_domain.plan_drop_points.Goals as goal

pub returns-in_err-found : goal.returns-in_err-found
returns-in_err-found c =
    let p = err_from_is_err_and c.from_residual.result c.from_residual.ensures.1 in
    let d : Name = c.args.domain in
    let next : List Index → Tree = λ is. write (dropped_domain_cells d c.args.kind.now is) in
    rw (p.1, p.2) (stops (points d) c.args.book.now.cells c.args.footprint.now c.points.new.footprint next c.in_err-found.field-0.0 c.in_err-found.ensures.looks)

pub returns : goal.returns
returns c =
    let s = c.args.book.now.cells in
    let d : Name = c.args.domain in
    let kind : DomainKind = c.args.kind.now in
    let next : List Index → Tree = λ is. write (dropped_domain_cells d kind is) in
    let is : List Index = indices_in c.in_ok-found.found in
    let us = c.points.new.footprint in
    let r = c.drop_changes.result in
    goes_on (points d) s c.args.footprint.now us next is r us c.in_ok-found.ensures.looks (ends (dropped_domain_cells d kind is) s us r c.drop_changes.ensures)
