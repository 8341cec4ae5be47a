use Rattle.std.proofs.Common.{take, sym, ap, subst, ◌∙◌}
use Rattle.std.specs.List.{list_all}
use Rattle.selective_undo.specs.Changes.{apply}
use Rattle.wb_cells.specs.Cells.{Cells}
use Rattle.wb_cells.specs.Runs.{changes_in, all_changes}
use Rattle.wb_book.specs.Joined.{element_in}
use Rattle.wb_book.specs.Kept.{Agree, is_set}
use Rattle.wb_book.proofs.EntriesSet.{run_passes, same_tests, apply_runs_more}
use Rattle.wb_book.proofs.keep.set_runs.Goals as goal

pub set_run-requires : goal.set_run-requires
set_run-requires c =
    let p = is_set (element_in c.loop-run.arrays.entries) in
    ap (λ f. list_all p (changes_in f)) c.form.ensures
    ∙ same_tests (element_in c.args.arrays.now.entries) (element_in c.loop-run.arrays.entries) c.loop-run.invariant.there (changes_in c.run-item.result.form)
    ∙ run_passes (is_set (element_in c.args.arrays.now.entries)) c.args.runs.now c.loop-run.run-index c.run-item.result c.loop-run-test.true c.run-item.is
    c.requires

pub loop-run-preserved : goal.loop-run-preserved
loop-run-preserved c =
    let rs = c.args.runs.now in
    let k = c.loop-run.run-index in
    let old = c.loop-run.invariant in
    record {
      agree = λ s agree. subst (λ (t : Cells). Agree c.set_run.new.arrays.entries t)
          (ap (λ f. apply (changes_in f) (apply (all_changes (take k rs)) s)) c.form.ensures
          ∙ sym (apply_runs_more rs k c.run-item.result s c.loop-run-test.true c.run-item.is))
          (c.set_run.ensures.agree (apply (all_changes (take k rs)) s) (old.agree s agree));
      names = c.set_run.ensures.names ∙ old.names;
      lie = λ b. c.set_run.ensures.lie b ∙ old.lie b;
      there = λ b i. c.set_run.ensures.there b i ∙ old.there b i;
    }
