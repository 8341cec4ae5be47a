use Rattle.std.proofs.Common.{◌≡◌, take, length}
use Rattle.wb_cells.proofs.book.label_runs.are_same.Given as goal

-- the bytes up to here are the same
abbrev pub invariant-loop-at : goal.invariant-loop-at
invariant-loop-at l = record { long : length l.bytes ≡ length l.others; same : take l.at l.bytes ≡ take l.at l.others }
