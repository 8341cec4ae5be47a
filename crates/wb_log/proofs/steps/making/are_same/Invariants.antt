use Rattle.std.proofs.Common.{◌≡◌, take, length}
use Rattle.wb_log.proofs.steps.making.are_same.Given as goal

-- the patterns up to here are the same
abbrev pub invariant-loop-at : goal.invariant-loop-at
invariant-loop-at l = record { long : length l.reads ≡ length l.others; same : take l.at l.reads ≡ take l.at l.others }
