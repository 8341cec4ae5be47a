use Rattle.std.proofs.Common.{ℕ, List, ◌+◌, ◌≡◌, ◌<◌, ◌≤◌, length}
use Rattle.wb_lines.specs.Turns.{AreTaken, cost_limit, turn_limit}
use Rattle.wb_lines.proofs.Answering.{Asked}
use Rattle.wb_lines.proofs.turns.answer_lines.Given as goal

abbrev pub invariant-loop-next : goal.invariant-loop-next
invariant-loop-next g l = record {
  count : length l.replies.items + length l.taken.items ≡ length l.fn.taken.items;
  cost : l.spent ≡ g.K.Holds.spent l.hold;
  cheap : l.spent < cost_limit;
  few : g.K.Holds.answered l.hold + length l.taken.items ≤ turn_limit;
  so_far : (asked : List (List ℕ)) → AreTaken g.M.Asks.reads asked l.fn.taken.items
      → Asked g.M.Machine.answers g.M.Asks.reads g.M.Tells.text l.fn.state l.state asked l.taken.items l.replies.items;
}

abbrev pub decreases-loop-next : goal.decreases-loop-next
decreases-loop-next g l = length l.taken.items
