use Rattle.std.proofs.Common.{◌≡◌}
use Rattle.wb_footprints.proofs.marks.blocks.Blocks.place_of.Given as goal

abbrev pub invariant-loop-block : goal.invariant-loop-block
invariant-loop-block l = l.place ≡ l.block-index
