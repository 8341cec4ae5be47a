use Rattle.std.proofs.Common.{◌≡◌, take}
use Rattle.std.specs.Map.{keys_of}
use Rattle.wb_cells.specs.Shapes.{indices}
use Rattle.wb_elements.proofs.ranged.are_at.Given as goal

abbrev pub invariant-loop-at : goal.invariant-loop-at
invariant-loop-at l = keys_of (take l.at l.pairs) ≡ take l.at (indices l.ranges)
