use Rattle.wb_log.proofs.Entered.{index_whole}
use Rattle.wb_log.proofs.index.by_footprint.ByFootprint.needing.Goals as goal

pub needing-requires-clause-indexed : goal.needing-requires-clause-indexed
needing-requires-clause-indexed c =
    let now = c.fill.new.self in
    index_whole now.index c.args.entries.now now.entered c.if-self-entries.false c.fill.ensures.indexed.index
