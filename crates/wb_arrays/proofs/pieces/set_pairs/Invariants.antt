use Rattle.std.proofs.Common.{◌≡◌, ◌++◌, take, drop}
use Rattle.std.specs.List.{zip}
use Rattle.std.specs.Map.{keys_of}
use Rattle.wb_arrays.proofs.pieces.set_pairs.Given as goal

abbrev pub invariant-loop-at : goal.invariant-loop-at
invariant-loop-at g l = l.pairs ≡ zip (keys_of (take l.at l.fn.pairs)) (take l.at l.numbers) ++ drop l.at l.fn.pairs
