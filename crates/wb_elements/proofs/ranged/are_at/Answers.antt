use Rattle.wb_cells.specs.Shapes.{indices}
use Rattle.wb_elements.proofs.ByRank.{one_key_more}
use Rattle.wb_elements.proofs.ranged.are_at.Goals as goal

pub loop-at-preserved : goal.loop-at-preserved
loop-at-preserved c = one_key_more c.args.pairs.now (indices c.args.ranges.now) c.loop-at.at c.index-pairs-at.result c.loop-at-test.true
    (c.stands_at.ensures c.if-not-stands_at.false) c.loop-at.invariant
