use Rattle.std.proofs.lemmas.Result.{err_from_is_err_and}
use Rattle.wb_cells.specs.declared.cells.cell.Cell.TheVariants.{In}
use Rattle.wb_edit.specs.Trees.{read, judged}
use Rattle.wb_edit.specs.Looks.{is_there}
use Rattle.wb_edit.proofs.Trees.{halts, then_judged}
use Rattle.wb_edit.proofs.looks.implicit.is_in_domain.Goals as goal

pub returns-in_err-present : goal.returns-in_err-present
returns-in_err-present c =
    let p = err_from_is_err_and c.from_residual.result c.from_residual.ensures.1 in
    rw (p.1, p.2) (halts (read (In c.args.domain c.args.index)) c.args.book.now.cells c.args.footprint.now c.read.new.footprint (λ v. judged (is_there v))
    c.in_err-present.field-0.0 c.in_err-present.ensures)

pub returns : goal.returns
returns c =
    rw (c.or_refused.ensures, c.is_there.ensures) (then_judged (read (In c.args.domain c.args.index)) c.args.book.now.cells c.args.footprint.now
    c.read.new.footprint is_there c.in_ok-present.present c.in_ok-present.ensures)
