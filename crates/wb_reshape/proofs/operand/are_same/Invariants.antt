use Rattle.std.proofs.Common.{◌≡◌, take, length}
use Rattle.wb_reshape.proofs.operand.are_same.Given as goal

abbrev pub invariant-loop-at : goal.invariant-loop-at
invariant-loop-at l = record { long : length l.indices ≡ length l.others; same : take l.at l.indices ≡ take l.at l.others }
