use Rattle.std.proofs.Common.{sym, ap, ◌∙◌}
use Rattle.std.specs.List.{list_all}
use Rattle.wb_cells.specs.Runs.{changes_in}
use Rattle.wb_book.specs.Joined.{stored_in}
use Rattle.wb_book.specs.Groups.{leaves}
use Rattle.wb_book.proofs.EntriesSet.{run_fails, pass_more}
use Rattle.wb_book.proofs.groups.runs_leave.Goals as goal

pub returns-then-not-run_leaves : goal.returns-then-not-run_leaves
returns-then-not-run_leaves c =
    let p = leaves (stored_in c.args.cells.now.entries) in
    sym (run_fails p c.args.runs.now c.loop-run.run-index c.run-item.result c.loop-run-test.true c.run-item.is
    (ap (λ f. list_all p (changes_in f)) (sym c.form.ensures) ∙ sym c.run_leaves.ensures ∙ c.if-not-run_leaves.true))

pub loop-run-preserved : goal.loop-run-preserved
loop-run-preserved c =
    let p = leaves (stored_in c.args.cells.now.entries) in
    pass_more p c.args.runs.now c.loop-run.run-index c.run-item.result c.loop-run-test.true c.run-item.is c.loop-run.invariant
    (ap (λ f. list_all p (changes_in f)) (sym c.form.ensures) ∙ sym c.run_leaves.ensures ∙ c.if-not-run_leaves.false)
