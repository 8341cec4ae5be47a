use Rattle.std.proofs.Common.{◌++◌, sym, ap, ◌∙◌}
use Rattle.std.proofs.lemmas.Result.{on_ok_weaker}
use Rattle.wb_cells.specs.Cells.{Changes, state_of}
use Rattle.wb_cells.proofs.Shown.{get-state_of}
use Rattle.wb_book.proofs.SetBack.{one_before}
use Rattle.wb_book.proofs.storing.add_before.Goals as goal

pub returns-in-Some : goal.returns-in-Some
returns-in-Some c =
    on_ok_weaker c.push.result
    (λ added. added
    ∙ ap (λ (ys : Changes). c.args.before.now ++ ys)
    (one_before c.args.change.now c.new.result c.in-Some.field-0 c.cell-cell.result c.get-value.result (state_of c.args.cells.now)
    (sym c.value.ensures ∙ c.in-Some.is) c.new.ensures c.cell-cell.ensures
    (c.get-value.ensures ∙ sym (get-state_of c.args.cells.now c.cell-cell.result))))
    c.push.ensures.ok
