use Rattle.std.proofs.Common.{◌≡◌, true, take}
use Rattle.std.specs.List.{list_all}
use Rattle.wb_dist.specs.Maps.{has_unit_stride}
use Rattle.wb_dist.proofs.block.has_unit_strides.Given as goal

abbrev pub invariant-loop-k : goal.invariant-loop-k
invariant-loop-k g l = list_all has_unit_stride (take l.k l.bounds) ≡ true
