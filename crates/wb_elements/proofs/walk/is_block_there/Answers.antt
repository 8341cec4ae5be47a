use Rattle.std.proofs.Common.{sym, ap, ◌∙◌}
use Rattle.wb_cells.specs.Shapes.{indices}
use Rattle.wb_elements.proofs.Blocks.{whole_there}
use Rattle.wb_elements.proofs.walk.is_block_there.Goals as goal

pub returns-then-has_ranges : goal.returns-then-has_ranges
returns-then-has_ranges g c =
    let b = c.args.block.now in
    sym (whole_there c.args.elements.now.0 (g.B.ChangeBlock.ranges_of b) (g.B.ChangeBlock.entries b)
    (c.has_ranges.ensures.same c.if-has_ranges.true ∙ ap indices c.over-ranges.ensures) (c.is_whole.ensures c.if-is_whole.true))
