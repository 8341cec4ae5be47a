use Rattle.std.proofs.Common.{◌≡◌, take, length}
use Rattle.wb_history.proofs.piece.are_same.Given as goal

abbrev pub invariant-loop-at : goal.invariant-loop-at
invariant-loop-at l = record { long : length l.pairs ≡ length l.others; same : take l.at l.pairs ≡ take l.at l.others }
