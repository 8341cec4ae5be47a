use Rattle.std.proofs.Common.{◌≡◌, true, ap, subst, ◌∙◌}
use Rattle.wb_cells.specs.declared.cells.cell.Cell.{Cell}
use Rattle.wb_cells.specs.declared.values.index.Index.TheVariants.{Point}
use Rattle.wb_cells.specs.Cells.{cell_cmp}
use Rattle.wb_cells.specs.Runs.{cell_of}
use Rattle.wb_footprints.specs.Marks.{marked}
use Rattle.wb_footprints.proofs.Through.{none_new, one_new}
use Rattle.wb_footprints.proofs.questions.swept.SweptCells.add_point.Goals as goal

pub returns-then-has : goal.returns-then-has
returns-then-has c = λ f fails.
    let row = c.args.row.now in
    let here = c.has.ensures c.if-has.true in
    let gone = subst (λ (x : Cell). marked cell_cmp c.args.self.now.cells x here.0 ≡ true) (c.cell.ensures ∙ ap (cell_of row) c.new-index.ensures) here.1 in
    none_new (λ p. f (Point p)) c.args.points.now.items c.args.point.now (fails (Point c.args.point.now) here.0 gone)

pub returns-in-Ok : goal.returns-in-Ok
returns-in-Ok c = λ f fails. one_new (λ p. f (Point p)) c.args.points.now.items c.push.new.self.items c.args.point.now c.in-Ok.ensures.items
