use Rattle.std.proofs.Common.{◌≡◌, take}
use Rattle.wb_book.specs.Piecewise.Indexed.{indexed}
use Rattle.wb_history.proofs.piece.listed.Given as goal

abbrev pub invariant-loop-key : goal.invariant-loop-key
invariant-loop-key g l = l.found.items ≡ indexed g.K.AsIndex.as_index (take l.key-index l.pairs)
