use Rattle.std.proofs.Common.{◌++◌, take, append_assoc, sym, ap, ◌∙◌}
use Rattle.selective_undo.specs.Changes.{inverse, sets}
use Rattle.wb_cells.specs.Cells.{Changes, state_of}
use Rattle.wb_cells.specs.Runs.{changes_in, all_changes}
use Rattle.wb_book.specs.Joined.{stored_part}
use Rattle.wb_book.proofs.StoredRuns.{before_run_more}
use Rattle.wb_book.proofs.storing.add_runs_before.Goals as goal

pub loop-run-preserved : goal.loop-run-preserved
loop-run-preserved c =
    let rs = c.args.runs.now in
    let k = c.loop-run.run-index in
    let r = c.run-item.result in
    let s = state_of c.args.cells.now in
    let here : Changes = inverse (sets (stored_part (changes_in r.form))) s in
    c.in_ok-add_run_before.ensures
    ∙ ap (λ (ys : Changes). ys ++ here) c.loop-run.invariant
    ∙ append_assoc c.args.before.now (inverse (sets (stored_part (all_changes (take k rs)))) s) here
    ∙ ap (λ (ys : Changes). c.args.before.now ++ ys) (sym (before_run_more rs k r s c.loop-run-test.true c.run-item.is))
