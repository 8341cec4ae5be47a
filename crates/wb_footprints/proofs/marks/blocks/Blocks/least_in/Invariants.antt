use Rattle.std.proofs.Common.{take}
use Rattle.std.specs.List.{list_any}
use Rattle.wb_footprints.specs.Relation.{IsLeastAfter}
use Rattle.wb_footprints.specs.Blocks.{in_blocks}
use Rattle.wb_footprints.proofs.marks.blocks.Blocks.least_in.Given as goal

abbrev pub invariant-loop-block : goal.invariant-loop-block
invariant-loop-block l = IsLeastAfter (λ n. list_any (λ p. in_blocks (take l.block-index l.self.list.items) p n) l.indices) l.after l.first
