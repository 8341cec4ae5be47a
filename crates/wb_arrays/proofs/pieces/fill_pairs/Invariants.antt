use Rattle.std.proofs.Common.{◌≡◌, ◌++◌, map, take, drop}
use Rattle.wb_arrays.proofs.pieces.fill_pairs.Given as goal

abbrev pub invariant-loop-pair : goal.invariant-loop-pair
invariant-loop-pair g l = l.pairs ≡ map (λ e. (e.0, l.number)) (take l.pair-index l.fn.pairs) ++ drop l.pair-index l.fn.pairs
