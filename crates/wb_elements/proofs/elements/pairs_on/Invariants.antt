use Rattle.std.proofs.Common.{◌≡◌, take}
use Rattle.wb_elements.specs.Piecewise.Indexed.{indexed}
use Rattle.wb_elements.proofs.elements.pairs_on.Given as goal

abbrev pub invariant-loop-index : goal.invariant-loop-index
invariant-loop-index g l = l.found.items ≡ indexed g.I.AsIndex.as_index (take l.index-index l.pairs)
