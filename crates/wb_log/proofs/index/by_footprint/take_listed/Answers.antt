use Rattle.std.proofs.Common.{◌++◌, Some, None, sym, ap, ◌∙◌}
use Rattle.wb_cells.specs.Reads.{all_read}
use Rattle.wb_footprints.specs.Footprints.{footprint, with_footprint}
use Rattle.wb_log.specs.Records.{lent_footprint}
use Rattle.wb_log.proofs.Alike.{put_alike, again, at_number}
use Rattle.wb_log.proofs.Lists.{index_like}
use Rattle.wb_log.proofs.index.by_footprint.take_listed.Goals as goal

pub returns : goal.returns
returns c = λ footprints was had.
    let k = lent_footprint c.args.kept.now in
    let named = c.reads.result.0.now ++ all_read c.reads.result.1.now in
    let bs = c.before-2.result.now in
    let n = c.args.number in
    let other = Some (footprint named bs) in
    let had_these = had ∙ ap (λ xs. Some (footprint k.reads xs)) (sym c.before-2.ensures.same) in
    let put = put_alike c.args.index.now footprints n k.reads named bs c.reads.ensures had_these was in
    index_like c.take.new.self (with_footprint (with_footprint footprints n other) n None) (with_footprint footprints n None) (again footprints n other None)
    (c.take.ensures (with_footprint footprints n other) put (at_number footprints n other))
