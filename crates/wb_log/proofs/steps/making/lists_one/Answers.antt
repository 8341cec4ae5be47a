use Rattle.std.proofs.Common.{None, sym, ap, ◌∙◌, arith}
use Rattle.std.specs.Ordering.{eq_by_cmp}
use Rattle.selective_undo.specs.declared.Change.{Change}
use Rattle.wb_cells.specs.declared.cells.cell.Cell.{Cell}
use Rattle.wb_cells.specs.declared.cells.value.Value.{Value}
use Rattle.wb_cells.specs.Cells.{cell_cmp}
use Rattle.wb_log.proofs.Numbers.{one_listed}
use Rattle.wb_log.proofs.steps.making.lists_one.Goals as goal

pub returns : goal.returns
returns c = λ e s.
    let x : Cell = c.args.target.now in
    let d : Change Cell Value = record { cell = c.cell_near.result; value = None } in
    one_listed c.args.cells.now d x (omega (arith, c.len.ensures, c.if-len-ne1.false))
    (ap (λ (y : Cell). eq_by_cmp cell_cmp y x) (sym (c.cell_near.ensures d)) ∙ sym c.is_same.ensures ∙ e) s
