use Rattle.std.proofs.Common.{◌≡◌, ◌<◌, ◌||◌, Bool, false, true, None, length, get_or, sym, ap, ◌∙◌, arith}
use Rattle.std.proofs.lemmas.List.Folds.{list_any_more, list_any_at}
use Rattle.std.specs.Ordering.{eq_by_cmp}
use Rattle.selective_undo.specs.declared.Change.{Change}
use Rattle.wb_cells.specs.declared.cells.cell.Cell.{Cell}
use Rattle.wb_cells.specs.declared.cells.value.Value.{Value}
use Rattle.wb_cells.specs.Cells.{cell_cmp}
use Rattle.wb_log.specs.Records.{lent_cells}
use Rattle.wb_log.proofs.blockers.is_changed.Goals as goal

pub returns-then-is_same : goal.returns-then-is_same
returns-then-is_same c =
    let xs = lent_cells c.args.wrote.now in
    let k = c.loop-at.at in
    let low : k < length xs = omega (arith, c.loop-at-test.true, c.len-at-end.ensures) in
    let d : Change Cell Value = record { cell = c.cell_near.result; value = None } in
    let here : eq_by_cmp cell_cmp c.args.cell.now (get_or xs k d).cell ≡ true = ap (eq_by_cmp cell_cmp c.args.cell.now) (sym (c.cell_near.ensures d)) ∙
    sym c.is_same.ensures ∙ c.if-is_same.true in
    sym (list_any_at (λ x. eq_by_cmp cell_cmp c.args.cell.now x.cell) xs k d low here)

pub loop-at-preserved : goal.loop-at-preserved
loop-at-preserved c =
    let xs = lent_cells c.args.wrote.now in
    let k = c.loop-at.at in
    let low : k < length xs = omega (arith, c.loop-at-test.true, c.len-at-end.ensures) in
    let d : Change Cell Value = record { cell = c.cell_near.result; value = None } in
    let not_here : eq_by_cmp cell_cmp c.args.cell.now (get_or xs k d).cell ≡ false = ap (eq_by_cmp cell_cmp c.args.cell.now) (sym (c.cell_near.ensures d)) ∙
    sym c.is_same.ensures ∙ c.if-is_same.false in
    list_any_more (λ x. eq_by_cmp cell_cmp c.args.cell.now x.cell) xs k d low
    ∙ ap (λ (b : Bool). b || eq_by_cmp cell_cmp c.args.cell.now (get_or xs k d).cell) c.loop-at.invariant ∙ not_here
