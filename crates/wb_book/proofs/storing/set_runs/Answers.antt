use Rattle.std.proofs.Common.{◌∙◌}
use Rattle.wb_cells.specs.Cells.{state_of}
use Rattle.wb_book.proofs.StoredRuns.{set_run_more, no_run_sets}
use Rattle.wb_book.proofs.storing.set_runs.Goals as goal

pub loop-run-preserved : goal.loop-run-preserved
loop-run-preserved c =
    let rs = c.args.runs.now in
    let k = c.loop-run.run-index in
    let r = c.run-item.result in
    let old = c.loop-run.invariant in
    record {
      set = set_run_more rs k r (state_of c.args.cells.now) (state_of c.loop-run.cells) (state_of c.set_run.new.cells) c.loop-run-test.true c.run-item.is
          old.set c.in_ok-set_run.ensures.set;
      others = λ q e. c.set_run.ensures.others q (no_run_sets rs k r q c.loop-run-test.true c.run-item.is e) ∙ old.others q e;
      stays = λ q there. c.set_run.ensures.stays q (old.stays q there);
    }

pub returns-in_err-set_run-clause-others : goal.returns-in_err-set_run-clause-others
returns-in_err-set_run-clause-others c = λ q e.
    c.set_run.ensures.others q (no_run_sets c.args.runs.now c.loop-run.run-index c.run-item.result q c.loop-run-test.true c.run-item.is e)
    ∙ c.loop-run.invariant.others q e
