use Rattle.std.proofs.Common.{◌≡◌, ◌++◌}
use Rattle.wb_arrays.proofs.pieces.pairs_in.Given as goal

abbrev pub invariant-loop-index : goal.invariant-loop-index
invariant-loop-index g l = l.pairs.items ++ l.index-iterator ≡ l.map.entries
