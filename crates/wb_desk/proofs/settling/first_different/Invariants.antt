use Rattle.std.proofs.Common.{ℕ, ◌<◌}
use Rattle.wb_desk.specs.Settling.{Agrees}
use Rattle.wb_desk.proofs.settling.first_different.Given as goal

abbrev pub invariant-loop-seat : goal.invariant-loop-seat
invariant-loop-seat g l = (k : ℕ) → k < l.seat → Agrees l.lists l.passes k
