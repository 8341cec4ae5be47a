use Rattle.std.proofs.Common.{◌||◌, take, sym, ap, ◌∙◌}
use Rattle.selective_undo.specs.Changes.{changes}
use Rattle.wb_cells.specs.declared.cells.cell.Cell.TheVariants.{Object}
use Rattle.wb_cells.specs.Cells.{Name, cell_cmp}
use Rattle.wb_cells.specs.Runs.{changes_in, all_changes}
use Rattle.wb_book.proofs.StoredRuns.{object_run_more, no_object}
use Rattle.wb_book.proofs.storing.add_all_alone.Goals as goal

pub loop-run-preserved : goal.loop-run-preserved
loop-run-preserved c = λ b.
    object_run_more c.args.runs.now c.loop-run.run-index c.run-item.result b (changes cell_cmp c.args.alone.now.items (Object b))
    (changes cell_cmp c.loop-run.alone.items (Object b)) (changes cell_cmp c.add_alone.new.alone.items (Object b))
    c.loop-run-test.true c.run-item.is (c.loop-run.invariant b)
    (c.in_ok-add_alone.ensures b ∙ ap (λ f. changes cell_cmp c.loop-run.alone.items (Object b) || changes cell_cmp (changes_in f) (Object b)) c.form.ensures)

pub loop-run-init : goal.loop-run-init
loop-run-init c = λ b. no_object (changes cell_cmp c.args.alone.now.items (Object b))
