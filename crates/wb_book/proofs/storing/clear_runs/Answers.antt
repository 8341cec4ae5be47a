use Rattle.wb_cells.specs.Cells.{state_of}
use Rattle.wb_book.proofs.StoredRuns.{clear_run_more}
use Rattle.wb_book.proofs.storing.clear_runs.Goals as goal

pub loop-run-preserved : goal.loop-run-preserved
loop-run-preserved c =
    clear_run_more c.args.runs.now c.loop-run.run-index c.run-item.result (state_of c.args.cells.now) (state_of c.loop-run.cells)
    (state_of c.clear_run.new.cells) c.loop-run-test.true c.run-item.is c.loop-run.invariant c.clear_run.ensures
