use Rattle.std.proofs.Common.{◌≡◌, [], replicate}
use Rattle.wb_arrays.specs.Pieces.{lists_of}
use Rattle.wb_arrays.proofs.part.empty_pieces.Given as goal

abbrev pub invariant-loop : goal.invariant-loop
invariant-loop g l = lists_of l.pieces.items ≡ replicate l.counter []
