use Rattle.std.proofs.lemmas.Result.{err_from_is_err_and}
use Rattle.wb_cells.specs.declared.cells.cell.Cell.TheVariants.{Element}
use Rattle.wb_edit.specs.Trees.{read, judged}
use Rattle.wb_edit.specs.Looks.{is_there}
use Rattle.wb_edit.proofs.Trees.{halts, then_judged}
use Rattle.wb_edit.proofs.looks.one_cell.element.Goals as goal

pub returns-in_err-element : goal.returns-in_err-element
returns-in_err-element c =
    let p = err_from_is_err_and c.from_residual.result c.from_residual.ensures.1 in
    rw (p.1, p.2) (halts (read (Element c.args.array c.args.index)) c.args.book.now.cells c.args.footprint.now c.read.new.footprint (λ v. judged (is_there v))
    c.in_err-element.field-0.0 c.in_err-element.ensures)

pub returns : goal.returns
returns c =
    rw (c.or_refused.ensures, c.is_there.ensures) (then_judged (read (Element c.args.array c.args.index)) c.args.book.now.cells c.args.footprint.now
    c.read.new.footprint is_there c.in_ok-element.element c.in_ok-element.ensures)
