use Rattle.std.proofs.Common.{◌<◌, sym, subst}
use Rattle.wb_cells.specs.Runs.{changes_in}
use Rattle.wb_layers.proofs.Together.{together_nil, laid_more}
use Rattle.wb_layers.proofs.laying.lay_run.Goals as goal

pub loop-at-init : goal.loop-at-init
loop-at-init c = rw c.in_ok-reserve.ensures.items (record { laid = sym (together_nil c.args.changes.now.items); found = c.requires.found })

pub loop-at-preserved : goal.loop-at-preserved
loop-at-preserved c =
    let ys = changes_in c.args.run.now.form in
    let low = subst (λ n. c.loop-at.at < n) c.len-at-end.ensures c.loop-at-test.true in
    record {
      laid = laid_more c.args.changes.now.items c.loop-at.changes.items ys c.lay_one.new.changes.items c.loop-at.at c.change-change.result c.requires.once
          low c.change-change.ensures c.loop-at.invariant.laid c.in_ok-lay_one.ensures.laid;
      found = c.in_ok-lay_one.ensures.found;
    }
