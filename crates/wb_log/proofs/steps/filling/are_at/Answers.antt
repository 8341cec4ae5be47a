use Rattle.std.proofs.Common.{sym, ap, ◌∙◌, arith}
use Rattle.wb_cells.specs.declared.changes.run.ChangeRun.{ChangeRun}
use Rattle.wb_log.proofs.Filled.{filled_alone}
use Rattle.wb_log.proofs.steps.filling.are_at.Goals as goal

pub returns-in-Rectangle : goal.returns-in-Rectangle
returns-in-Rectangle c = λ e.
    let first = c.parts-first.result.0 in
    let runs = c.parts-first.result.1.now in
    let run = c.index-runs-0.result in
    filled_alone c.args.cells.now first runs run c.in-Rectangle.block c.args.array.now c.args.on.now c.parts-first.ensures
    (sym c.is_some.ensures ∙ c.if-is_some.false)
    (omega (arith, c.if-runs-ne1.false))
    (ap (λ (x : ChangeRun). x.form) (sym c.index-runs-0.is) ∙ sym c.form.ensures ∙ c.in-Rectangle.is)
    (c.is_at.ensures.row e)
    (c.is_at.ensures.ranges e)
