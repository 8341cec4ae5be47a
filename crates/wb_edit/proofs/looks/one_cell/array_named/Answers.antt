use Rattle.std.proofs.lemmas.Result.{err_from_is_err_and}
use Rattle.wb_cells.specs.declared.cells.cell.Cell.TheVariants.{Object}
use Rattle.wb_edit.specs.Trees.{read, judged}
use Rattle.wb_edit.specs.Looks.{array_kind}
use Rattle.wb_edit.proofs.Trees.{halts, then_judged}
use Rattle.wb_edit.proofs.looks.one_cell.array_named.Goals as goal

pub returns-in_err-object : goal.returns-in_err-object
returns-in_err-object c =
    let p = err_from_is_err_and c.from_residual.result c.from_residual.ensures.1 in
    rw (p.1, p.2) (halts (read (Object c.args.array)) c.args.book.now.cells c.args.footprint.now c.read.new.footprint (λ v. judged (array_kind v))
    c.in_err-object.field-0.0 c.in_err-object.ensures)

pub returns : goal.returns
returns c =
    rw (c.or_refused.ensures, c.array_kind.ensures) (then_judged (read (Object c.args.array)) c.args.book.now.cells c.args.footprint.now c.read.new.footprint
    array_kind c.in_ok-object.object c.in_ok-object.ensures)
