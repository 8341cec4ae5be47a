use Rattle.std.proofs.Common.{sym, ap, ◌∙◌}
use Rattle.std.specs.List.{list_all}
use Rattle.wb_cells.specs.Runs.{changes_in}
use Rattle.wb_book.specs.Joined.{element_in}
use Rattle.wb_book.specs.Kept.{is_set}
use Rattle.wb_book.proofs.EntriesSet.{run_fails, pass_more}
use Rattle.wb_book.proofs.keep.are_runs_set.Goals as goal

pub returns-then-not-is_run_set : goal.returns-then-not-is_run_set
returns-then-not-is_run_set c =
    let p = is_set (element_in c.args.arrays.now.entries) in
    sym (run_fails p c.args.runs.now c.loop-run.run-index c.run-item.result c.loop-run-test.true c.run-item.is
    (ap (λ f. list_all p (changes_in f)) (sym c.form.ensures) ∙ sym c.is_run_set.ensures ∙ c.if-not-is_run_set.true))

pub loop-run-preserved : goal.loop-run-preserved
loop-run-preserved c =
    let p = is_set (element_in c.args.arrays.now.entries) in
    pass_more p c.args.runs.now c.loop-run.run-index c.run-item.result c.loop-run-test.true c.run-item.is c.loop-run.invariant
    (ap (λ f. list_all p (changes_in f)) (sym c.form.ensures) ∙ sym c.is_run_set.ensures ∙ c.if-not-is_run_set.false)
