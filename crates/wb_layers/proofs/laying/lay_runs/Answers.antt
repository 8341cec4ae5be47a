use Rattle.std.proofs.Common.{sym}
use Rattle.wb_layers.proofs.Together.{together_nil, once_run, run_laid}
use Rattle.wb_layers.proofs.laying.lay_runs.Goals as goal

pub loop-run-init : goal.loop-run-init
loop-run-init c = record { laid = sym (together_nil c.args.changes.now.items); found = c.requires.found }

pub lay_run-requires-clause-once : goal.lay_run-requires-clause-once
lay_run-requires-clause-once c = once_run c.args.runs.now c.loop-run.run-index c.run-item.result c.requires.once c.loop-run-test.true c.run-item.is

pub loop-run-preserved : goal.loop-run-preserved
loop-run-preserved c =
    record {
      laid = run_laid c.args.changes.now.items c.loop-run.changes.items c.lay_run.new.changes.items c.args.runs.now c.loop-run.run-index c.run-item.result
          c.requires.once c.loop-run-test.true c.run-item.is c.loop-run.invariant.laid c.in_ok-lay_run.ensures.laid;
      found = c.in_ok-lay_run.ensures.found;
    }
