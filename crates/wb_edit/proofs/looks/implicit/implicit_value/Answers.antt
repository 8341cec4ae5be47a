use Rattle.std.proofs.lemmas.Result.{err_from_is_err_and}
use Rattle.wb_cells.specs.declared.cells.cell.Cell.TheVariants.{Implicit}
use Rattle.wb_edit.specs.Trees.{read, judged}
use Rattle.wb_edit.specs.Numbers.{element_or_refusal}
use Rattle.wb_edit.proofs.Trees.{halts, then_judged}
use Rattle.wb_edit.proofs.looks.implicit.implicit_value.Goals as goal

pub returns-in_err-value : goal.returns-in_err-value
returns-in_err-value c =
    let p = err_from_is_err_and c.from_residual.result c.from_residual.ensures.1 in
    rw (p.1, p.2) (halts (read (Implicit c.args.array)) c.args.book.now.cells c.args.footprint.now c.read.new.footprint (λ v. judged (element_or_refusal v))
    c.in_err-value.field-0.0 c.in_err-value.ensures)

pub returns : goal.returns
returns c =
    rw (c.or_refused.ensures, c.element_or_refusal.ensures) (then_judged (read (Implicit c.args.array)) c.args.book.now.cells c.args.footprint.now
    c.read.new.footprint element_or_refusal c.in_ok-value.value c.in_ok-value.ensures)
