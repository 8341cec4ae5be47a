use Rattle.std.proofs.Common.{List, Err}
use Rattle.std.proofs.lemmas.Result.{err_from_is_err_and}
use Rattle.selective_undo.specs.Edit.{write}
use Rattle.wb_cells.specs.declared.cells.kind.Kind.{Kind}
use Rattle.wb_cells.specs.declared.values.index.Index.{Index}
use Rattle.wb_cells.specs.Cells.{Name}
use Rattle.wb_edit.specs.Commands.{dropped_cells}
use Rattle.wb_edit.specs.Elements.{element_indices}
use Rattle.wb_edit.specs.Trees.{Tree}
use Rattle.wb_edit.specs.Plans.{indices_in}
use Rattle.wb_edit.specs.Looks.{array_named}
use Rattle.wb_edit.proofs.Attempts.{goes_on, stops, ends}
use Rattle.wb_edit.proofs.commands.drop_array.plan_drop_array.Goals as goal

pub returns-in_err-found : goal.returns-in_err-found
returns-in_err-found c =
    let p = err_from_is_err_and c.from_residual-in_err-found.result c.from_residual-in_err-found.ensures.1 in
    let s = c.args.book.now.cells in
    let a : Name = c.args.array in
    let last : Name → List Index → Tree = λ d is. write (dropped_cells a d is) in
    let seen : Name × Kind = (c.in_ok-domain.domain, c.in_ok-domain._kind) in
    let rs = c.array_named.new.footprint in
    let us = c.element_indices.new.footprint in
    let why = c.in_err-found.field-0.0 in
    rw (p.1, p.2) (goes_on (array_named a) s c.args.footprint.now rs (λ array. element_indices a (last array.0)) seen (Err why) us c.in_ok-domain.ensures (
    stops (element_indices a) s rs us (last seen.0) why c.in_err-found.ensures.looks))

pub returns : goal.returns
returns c =
    let s = c.args.book.now.cells in
    let a : Name = c.args.array in
    let last : Name → List Index → Tree = λ d is. write (dropped_cells a d is) in
    let seen : Name × Kind = (c.in_ok-domain.domain, c.in_ok-domain._kind) in
    let is : List Index = indices_in c.in_ok-found.found in
    let rs = c.array_named.new.footprint in
    let us = c.element_indices.new.footprint in
    let r = c.drop_changes.result in
    goes_on (array_named a) s c.args.footprint.now rs (λ array. element_indices a (last array.0)) seen r us c.in_ok-domain.ensures (
    goes_on (element_indices a) s rs us (last seen.0) is r us c.in_ok-found.ensures.looks (
    ends (dropped_cells a seen.0 is) s us r c.drop_changes.ensures))
