use Rattle.std.proofs.Common.{ℕ, List, ◌≡◌, ◌+◌, ◌-◌, ◌*◌, false, length}
use Rattle.std.specs.Io.KnownBytes.{Appends, Consumes}
use Rattle.wb_lines.specs.Causes.{CountsReads}
use Rattle.wb_lines.specs.Reading.{KnowsEnd, unread, block_size, read_limit}
use Rattle.wb_lines.specs.Turns.{IsUnspent}
use Rattle.wb_lines.proofs.Running.{Running}
use Rattle.wb_lines.proofs.serving.serve.Given as goal

abbrev pub invariant-turns : goal.invariant-turns
invariant-turns g l = ((read text : List ℕ) × Consumes (g.R.Hears.remaining l.fn.reader) (g.R.Hears.remaining l.reader) read
    × Appends (g.W.Sends.contents l.fn.writer) (g.W.Sends.contents l.writer) text
    × Running g.T.Turns.goes l.fn.state l.state read text l.answered l.buffer)
    × KnowsEnd l.buffer (g.R.Hears.remaining l.reader)
    × CountsReads unread l.buffer (g.R.Hears.reads l.fn.reader) (g.R.Hears.reads l.reader)
    × (g.K.Holds.held l.hold ≡ false)
    × IsUnspent g.K.Holds.spent g.K.Holds.answered l.hold
    × g.T.Turns.rests l.state

abbrev pub decreases-turns : goal.decreases-turns
decreases-turns g l = block_size * (read_limit - l.buffer.reads) + length l.buffer.ahead
