use Rattle.std.proofs.Common.{◌++◌, take, append_assoc, true≢false, arith, sym, ap, subst, ◌∙◌}
use Rattle.std.proofs.lemmas.List.{append-nil}
use Rattle.std.specs.List.{list_all}
use Rattle.selective_undo.specs.Changes.{changes}
use Rattle.wb_cells.specs.declared.cells.cell.Cell.TheVariants.{Object}
use Rattle.wb_cells.specs.Cells.{Changes, cell_cmp}
use Rattle.wb_cells.specs.Runs.{changes_in as run_changes, all_changes}
use Rattle.wb_book.specs.Groups.{LeadTo, changes_in, is_numeric}
use Rattle.wb_book.proofs.EntriesSet.{run_passes}
use Rattle.wb_book.proofs.Entries.{run_more, all_runs, object_more}
use Rattle.wb_book.proofs.groups.add_runs.Goals as goal

pub add_run-requires : goal.add_run-requires
add_run-requires c =
    ap (λ f. list_all is_numeric (run_changes f)) c.form.ensures
    ∙ run_passes is_numeric c.args.runs.now c.loop-run.run-index c.run-item.result c.loop-run-test.true c.run-item.is c.requires

pub loop-run-preserved : goal.loop-run-preserved
loop-run-preserved c =
    let rs = c.args.runs.now in
    let k = c.loop-run.run-index in
    let r = c.run-item.result in
    let old = c.loop-run.invariant in
    let more = run_more rs k r c.loop-run-test.true c.run-item.is in
    record {
      lead = λ before lead b. subst (λ (ys : Changes). LeadTo ys b (changes_in c.add_run.new.groups.entries b))
          (append_assoc before (all_changes (take k rs)) (run_changes c.form.result.now)
          ∙ ap (λ ys. before ++ ys) (ap (λ f. all_changes (take k rs) ++ run_changes f) c.form.ensures ∙ sym more))
          (c.in_ok-add_run.ensures.lead (before ++ all_changes (take k rs)) (old.lead before lead) b);
      stays = λ b there. c.add_run.ensures.stays b (old.stays b there);
      objects = λ b e. object_more (all_changes (take k rs)) (run_changes r.form) (all_changes (take _ rs)) b c.loop-run.groups.entries
          c.add_run.new.groups.entries more (c.add_run.ensures.stays b) (old.objects b)
          (λ h. c.in_ok-add_run.ensures.object b (ap (λ f. changes cell_cmp (run_changes f) (Object b)) c.form.ensures ∙ h)) e;
    }

pub loop-run-init : goal.loop-run-init
loop-run-init c = record {
  lead = λ before lead b. subst (λ (ys : Changes). LeadTo ys b (changes_in c.args.groups.now.entries b)) (sym (append-nil before)) (lead b);
  stays = λ b there. there;
  objects = λ b e. absurd (true≢false (sym e));
}

pub returns-clause-lead : goal.returns-clause-lead
returns-clause-lead c = λ before lead b.
    subst (λ (ys : Changes). LeadTo (before ++ ys) b (changes_in c.loop-run.groups.entries b))
    (all_runs c.args.runs.now c.loop-run.run-index (omega (arith, c.loop-run-test.false))) (c.loop-run.invariant.lead before lead b)
