use Rattle.std.proofs.Common.{sym, ◌∙◌, ap, ◌||◌, ◌++◌}
use Rattle.selective_undo.specs.Log.{blocks_undo, blocks_redo}
use Rattle.wb_cells.specs.Reads.{all_read}
use Rattle.wb_footprints.specs.Footprints.{touched_one_of, footprint}
use Rattle.wb_footprints.proofs.Meeting.{least_like, redo_met, undo_met}
use Rattle.wb_footprints.proofs.foot_index.FootIndex.first_to_block_redo.Goals as goal

pub returns : goal.returns
returns c = λ footprints h. least_like (λ n. blocks_undo c.args.delta.now (footprints n) || touched_one_of (footprints n)
    (c.args.reads.now ++ all_read c.args.runs.now))
    (λ n. blocks_redo (footprint (c.args.reads.now ++ all_read c.args.runs.now) c.args.delta.now) (footprints n)) c.args.after c.earlier.result
    (λ n. redo_met (c.args.reads.now ++ all_read c.args.runs.now) c.args.delta.now (footprints n) ∙
    ap (λ b. b || touched_one_of (footprints n) (c.args.reads.now ++ all_read c.args.runs.now)) (sym (undo_met c.args.delta.now (footprints n))))
    (c.earlier.ensures.least (λ n. blocks_undo c.args.delta.now (footprints n)) (λ n. touched_one_of (footprints n)
    (c.args.reads.now ++ all_read c.args.runs.now)) c.args.after
    (c.first_to_block_undo.ensures.least footprints h) (c.first_writer.ensures footprints h))
