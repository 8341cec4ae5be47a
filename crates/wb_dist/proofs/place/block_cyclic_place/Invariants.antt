use Rattle.std.proofs.Common.{◌≡◌, true, drop}
use Rattle.wb_dist.specs.Grid.{are_positive}
use Rattle.wb_dist.specs.Maps.{block_cyclic_coordinates}
use Rattle.wb_dist.proofs.Places.{IsPlaced}
use Rattle.wb_dist.proofs.place.block_cyclic_place.Given as goal

abbrev pub invariant-loop-k : goal.invariant-loop-k
invariant-loop-k l = record {
  placed : IsPlaced l.grid (drop l.k l.grid) (block_cyclic_coordinates l.start l.size l.grid l.index)
      (block_cyclic_coordinates (drop l.k l.start) (drop l.k l.size) (drop l.k l.grid) (drop l.k l.index)) l.at;
  filled : are_positive (drop l.k l.size) ≡ true;
}
