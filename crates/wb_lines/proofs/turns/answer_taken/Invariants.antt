use Rattle.std.proofs.Common.{ℕ, List, ◌+◌, ◌≤◌, ◌≡◌, false, length}
use Rattle.wb_lines.specs.Turns.{AreTaken, IsUnspent}
use Rattle.wb_lines.proofs.Answering.{Answering}
use Rattle.wb_lines.proofs.turns.answer_taken.Given as goal

abbrev pub invariant-loop-alloc : goal.invariant-loop-alloc
invariant-loop-alloc g l = record {
  count : l.answered + length l.taken.items ≤ 256;
  free : g.K.Holds.held l.hold ≡ false;
  unspent : IsUnspent g.K.Holds.spent g.K.Holds.answered l.hold;
  so_far : (asked : List (List ℕ)) → AreTaken g.M.Asks.reads asked l.fn.taken.items
      → Answering g.M.Machine.answers g.M.Asks.reads l.fn.state l.state (g.W.Sends.contents l.fn.writer) (g.W.Sends.contents l.writer) asked l.taken.items
      l.answered;
}

abbrev pub decreases-loop-alloc : goal.decreases-loop-alloc
decreases-loop-alloc g l = length l.taken.items
