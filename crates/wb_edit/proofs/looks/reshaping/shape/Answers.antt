use Rattle.std.proofs.lemmas.Result.{err_from_is_err_and}
use Rattle.wb_cells.specs.declared.cells.cell.Cell.TheVariants.{Shape}
use Rattle.wb_edit.specs.Trees.{read, judged}
use Rattle.wb_edit.specs.Reshaping.{shape_in}
use Rattle.wb_edit.proofs.Trees.{halts, then_judged}
use Rattle.wb_edit.proofs.looks.reshaping.shape.Goals as goal

pub returns-in_err-ranges : goal.returns-in_err-ranges
returns-in_err-ranges c =
    let p = err_from_is_err_and c.from_residual.result c.from_residual.ensures.1 in
    rw (p.1, p.2) (halts (read (Shape c.args.domain)) c.args.book.now.cells c.args.footprint.now c.read.new.footprint (λ v. judged (shape_in v))
    c.in_err-ranges.field-0.0 c.in_err-ranges.ensures)

pub returns : goal.returns
returns c =
    rw (c.or_refused.ensures, c.shape_in.ensures) (then_judged (read (Shape c.args.domain)) c.args.book.now.cells c.args.footprint.now c.read.new.footprint
    shape_in c.in_ok-ranges.ranges c.in_ok-ranges.ensures)
