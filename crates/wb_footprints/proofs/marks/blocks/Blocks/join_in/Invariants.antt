use Rattle.std.proofs.Common.{◌&&◌, take}
use Rattle.std.specs.List.{list_any}
use Rattle.wb_footprints.specs.declared.marks.blocks.MarkBlock.{MarkBlock}
use Rattle.wb_footprints.specs.Relation.{JoinedAfter}
use Rattle.wb_footprints.specs.Numbers.{numbered}
use Rattle.wb_footprints.specs.Indices.{in_indices}
use Rattle.wb_footprints.proofs.marks.blocks.Blocks.join_in.Given as goal

abbrev pub invariant-loop-block : goal.invariant-loop-block
invariant-loop-block l = JoinedAfter l.initial.waiting l.waiting
    (λ n. list_any (λ (b : MarkBlock). list_any (in_indices b.indices) l.indices && numbered b.numbers n) (take l.block-index l.self.list.items)) l.after
