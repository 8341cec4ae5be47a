use Rattle.std.proofs.Common.{length}
use Rattle.wb_sessions.proofs.LinesLeft.{IsLeft}
use Rattle.wb_sessions.proofs.places.left_behind.Given as goal

-- what is still to be read, and what was read
abbrev pub invariant-loop-line : goal.invariant-loop-line
invariant-loop-line g l = IsLeft l.fn.below l.left l.history.entries

abbrev pub decreases-loop-line : goal.decreases-loop-line
decreases-loop-line g l = length l.left
