use Rattle.std.proofs.Common.{◌++◌, refl, ap, ◌∙◌, ◌+◌}
use Rattle.selective_undo.specs.Log.{blocks_redo, first_from}
use Rattle.wb_cells.specs.Reads.{all_read}
use Rattle.wb_footprints.specs.Footprints.{footprint}
use Rattle.wb_log.specs.Kept.{by_number, kept_in, kept_all}
use Rattle.wb_log.proofs.Entries.{drop-map}
use Rattle.wb_log.proofs.Entered.{first_is, index_whole}
use Rattle.wb_log.proofs.index.by_footprint.ByFootprint.first_to_block_redo.Goals as goal

pub returns-then-self-entries-clause-first : goal.returns-then-self-entries-clause-first
returns-then-self-entries-clause-first c =
    let p = blocks_redo (footprint (c.args.reads.now ++ all_read c.args.runs.now) c.args.delta.now) in
    c.first_to_block_redo.ensures ∙ ap (λ ls. first_from p (c.args.at + 2) (kept_all ls)) c.later_than-later.ensures ∙
    ap (first_from p (c.args.at + 2)) (drop-map kept_in c.args.entries.now (c.args.at + 1))

pub returns-clause-first : goal.returns-clause-first
returns-clause-first c =
    let es = c.args.entries.now in
    let now = c.fill.new.self in
    first_is es c.args.at (blocks_redo (footprint (c.args.reads.now ++ all_read c.args.runs.now) c.args.delta.now)) refl c.first_to_block_redo-2.result
    (c.first_to_block_redo-2.ensures (by_number es) (index_whole now.index es now.entered c.if-self-entries.false c.fill.ensures.indexed.index))
