use Rattle.std.proofs.Common.{◌≡◌, ◌++◌, drop}
use Rattle.std.specs.List.{flat_map}
use Rattle.wb_arrays.specs.Pieces.{lists_of}
use Rattle.wb_arrays.proofs.pieces.chained.Given as goal

-- what the rest of the pieces still adds
abbrev pub invariant-loop-piece : goal.invariant-loop-piece
invariant-loop-piece g l =
    l.pairs.items ++ flat_map (λ p. p) (lists_of (drop l.piece-index l.pieces)) ≡ flat_map (λ p. p) (lists_of l.pieces)
