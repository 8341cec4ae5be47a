use Rattle.std.proofs.Common.{◌≡◌, ◌<◌, ◌||◌, ◌++◌, Bool, false, true, None, length, get_or, sym, ap, ◌∙◌, arith}
use Rattle.std.proofs.lemmas.List.Folds.{list_any_more, list_any_at}
use Rattle.selective_undo.specs.Changes.{changes}
use Rattle.selective_undo.specs.Edit.{covers}
use Rattle.selective_undo.specs.declared.Change.{Change}
use Rattle.wb_cells.specs.declared.cells.cell.Cell.{Cell}
use Rattle.wb_cells.specs.declared.cells.value.Value.{Value}
use Rattle.wb_cells.specs.Cells.{cell_cmp}
use Rattle.wb_cells.specs.Reads.{all_read}
use Rattle.wb_cells.specs.Schema.{workbook}
use Rattle.wb_log.specs.Records.{lent_cells}
use Rattle.wb_log.proofs.blockers.meets_any.Goals as goal

pub returns-then-meets : goal.returns-then-meets
returns-then-meets c =
    let xs = lent_cells c.args.cells.now in
    let k = c.loop-at.at in
    let low : k < length xs = omega (arith, c.loop-at-test.true, c.len-at-end.ensures) in
    let d : Change Cell Value = record { cell = c.cell_near-cell.result; value = None } in
    let is_met : Cell → Bool = λ y. changes cell_cmp (lent_cells c.args.wrote.now) y || covers workbook (c.args.reads.now ++ all_read c.args.runs.now) y in
    let here : is_met (get_or xs k d).cell ≡ true = ap is_met (sym (c.cell_near-cell.ensures d)) ∙ sym c.meets.ensures ∙ c.if-meets.true in
    sym (list_any_at (λ x. is_met x.cell) xs k d low here)

pub loop-at-preserved : goal.loop-at-preserved
loop-at-preserved c =
    let xs = lent_cells c.args.cells.now in
    let k = c.loop-at.at in
    let low : k < length xs = omega (arith, c.loop-at-test.true, c.len-at-end.ensures) in
    let d : Change Cell Value = record { cell = c.cell_near-cell.result; value = None } in
    let is_met : Cell → Bool = λ y. changes cell_cmp (lent_cells c.args.wrote.now) y || covers workbook (c.args.reads.now ++ all_read c.args.runs.now) y in
    let not_here : is_met (get_or xs k d).cell ≡ false = ap is_met (sym (c.cell_near-cell.ensures d)) ∙ sym c.meets.ensures ∙ c.if-meets.false in
    list_any_more (λ x. is_met x.cell) xs k d low ∙ ap (λ (b : Bool). b || is_met (get_or xs k d).cell) c.loop-at.invariant ∙ not_here
