use Rattle.std.proofs.lemmas.Result.{err_from_is_err_and}
use Rattle.wb_cells.specs.declared.cells.cell.Cell.TheVariants.{Object}
use Rattle.wb_edit.specs.Trees.{read, judged}
use Rattle.wb_edit.specs.Implicit.{parent_in}
use Rattle.wb_edit.proofs.Trees.{halts, then_judged}
use Rattle.wb_edit.proofs.looks.implicit.parent_of.Goals as goal

pub returns-in_err-object : goal.returns-in_err-object
returns-in_err-object c =
    let p = err_from_is_err_and c.from_residual.result c.from_residual.ensures.1 in
    rw (p.1, p.2) (halts (read (Object c.args.domain)) c.args.book.now.cells c.args.footprint.now c.read.new.footprint (λ v. judged (parent_in v))
    c.in_err-object.field-0.0 c.in_err-object.ensures)

pub returns : goal.returns
returns c =
    rw (c.or_refused.ensures, c.parent_in.ensures) (then_judged (read (Object c.args.domain)) c.args.book.now.cells c.args.footprint.now c.read.new.footprint
    parent_in c.in_ok-object.object c.in_ok-object.ensures)
