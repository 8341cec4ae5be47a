use Rattle.std.proofs.Common.{drop}
use Rattle.wb_dist.specs.Maps.{block_coordinates}
use Rattle.wb_dist.proofs.Places.{IsPlaced}
use Rattle.wb_dist.proofs.place.block_place.Given as goal

abbrev pub invariant-loop-k : goal.invariant-loop-k
invariant-loop-k l =
    IsPlaced l.grid (drop l.k l.grid) (block_coordinates l.low l.high l.grid l.index)
    (block_coordinates (drop l.k l.low) (drop l.k l.high) (drop l.k l.grid) (drop l.k l.index)) l.at
