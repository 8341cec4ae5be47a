use Rattle.selective_undo.specs.Log.{blocks_undo}
use Rattle.wb_footprints.specs.Footprints.{any_met}
use Rattle.wb_footprints.proofs.Meeting.{least_like, met_both, undo_met}
use Rattle.wb_footprints.proofs.foot_index.FootIndex.first_to_block_undo.Goals as goal

pub returns-clause-least : goal.returns-clause-least
returns-clause-least c = λ footprints h.
    let xs = c.args.before.now in
    least_like (λ n. any_met (footprints n) xs) (λ n. blocks_undo xs (footprints n)) c.args.after c.earlier.result (λ n. undo_met xs (footprints n))
    (met_both footprints c.args.after _ _ xs c.parts-first.ensures c.earlier.result
    (c.earlier.ensures.least _ _ c.args.after (c.met_first.ensures.least footprints h) (c.met_in_runs.ensures.least footprints h)))
