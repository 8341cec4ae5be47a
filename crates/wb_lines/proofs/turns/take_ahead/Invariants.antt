use Rattle.std.proofs.Common.{ℕ, List, ◌++◌, ◌-◌, ◌≤◌, length}
use Rattle.wb_lines.specs.Turns.{TakesLines, AreTaken}
use Rattle.wb_lines.proofs.turns.take_ahead.Given as goal

abbrev pub invariant-loop-buffer : goal.invariant-loop-buffer
invariant-loop-buffer g l = (length l.turn.items ≤ 256) × ((more : List (List ℕ)) × TakesLines l.fn.buffer l.buffer more
    × ((first : List (List ℕ)) → AreTaken g.M.Asks.reads first l.fn.turn.items → AreTaken g.M.Asks.reads (first ++ more) l.turn.items))

abbrev pub decreases-loop-buffer : goal.decreases-loop-buffer
decreases-loop-buffer g l = 256 - length l.turn.items
