use Rattle.std.proofs.Common.{drop}
use Rattle.wb_dist.specs.Maps.{cyclic_coordinates}
use Rattle.wb_dist.proofs.Places.{IsPlaced}
use Rattle.wb_dist.proofs.place.cyclic_place.Given as goal

abbrev pub invariant-loop-k : goal.invariant-loop-k
invariant-loop-k l =
    IsPlaced l.grid (drop l.k l.grid) (cyclic_coordinates l.start l.grid l.index)
    (cyclic_coordinates (drop l.k l.start) (drop l.k l.grid) (drop l.k l.index)) l.at
