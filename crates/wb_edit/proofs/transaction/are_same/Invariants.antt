use Rattle.std.proofs.Common.{◌≡◌, take, length}
use Rattle.wb_edit.proofs.transaction.are_same.Given as goal

abbrev pub invariant-loop-at : goal.invariant-loop-at
invariant-loop-at l = record { long : length l.commands ≡ length l.others; same : take l.at l.commands ≡ take l.at l.others }
