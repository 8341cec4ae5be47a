use Rattle.std.proofs.Common.{List, ◌≡◌, ◌++◌, length, Option}
use Rattle.std.specs.Io.KnownBytes.{Appends}
use Rattle.wb_lines.specs.Turns.{all_texts}
use Rattle.wb_lines.proofs.turns.tell_replies.Given as goal

abbrev pub invariant-loop-reply : goal.invariant-loop-reply
invariant-loop-reply g l = (sent : List (Option g.row.Q.Denot)) × (l.fn.replies.items ≡ sent ++ l.replies.items) × (l.told ≡ length sent)
    × Appends (g.W.Sends.contents l.fn.writer) (g.W.Sends.contents l.writer) (all_texts g.M.Tells.text sent)

abbrev pub decreases-loop-reply : goal.decreases-loop-reply
decreases-loop-reply g l = length l.replies.items
