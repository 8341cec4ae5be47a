use Rattle.std.proofs.Common.{◌+◌, ap, ◌∙◌}
use Rattle.selective_undo.specs.Log.{blocks_undo, first_from}
use Rattle.wb_log.specs.Kept.{kept_in, kept_all}
use Rattle.wb_log.specs.Records.{lent_cells}
use Rattle.wb_log.proofs.Entries.{drop-map}
use Rattle.wb_log.proofs.index.by_footprint.first_to_need.Goals as goal

pub returns : goal.returns
returns c =
    let p = blocks_undo (lent_cells c.args.before.now) in
    c.first_to_block_undo.ensures ∙ ap (λ ls. first_from p (c.args.at + 2) (kept_all ls)) c.later_than-later.ensures ∙
    ap (first_from p (c.args.at + 2)) (drop-map kept_in c.args.entries.now (c.args.at + 1))
