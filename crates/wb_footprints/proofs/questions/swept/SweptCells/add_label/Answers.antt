use Rattle.std.proofs.Common.{◌≡◌, true, ap, subst, ◌∙◌}
use Rattle.std.proofs.lemmas.Result.{on_ok_weaker}
use Rattle.wb_cells.specs.declared.cells.cell.Cell.{Cell}
use Rattle.wb_cells.specs.declared.values.index.Index.TheVariants.{Text}
use Rattle.wb_cells.specs.Cells.{cell_cmp}
use Rattle.wb_cells.specs.Runs.{cell_of}
use Rattle.wb_footprints.specs.Marks.{marked}
use Rattle.wb_footprints.proofs.Through.{none_new, one_new}
use Rattle.wb_footprints.proofs.questions.swept.SweptCells.add_label.Goals as goal

pub returns-then-has : goal.returns-then-has
returns-then-has c = λ f fails.
    let row = c.args.row.now in
    let here = c.has.ensures c.if-has.true in
    let gone = subst (λ (x : Cell). marked cell_cmp c.args.self.now.cells x here.0 ≡ true) (c.cell.ensures ∙ ap (cell_of row) c.new-index.ensures) here.1 in
    none_new (λ t. f (Text t)) c.args.list.now c.args.label.now (fails (Text c.args.label.now) here.0 gone)

pub returns : goal.returns
returns c = on_ok_weaker c.push_label.result
    (λ e f fails. one_new (λ t. f (Text t)) c.args.list.now c.push_label.new.self c.args.label.now e) c.push_label.ensures
