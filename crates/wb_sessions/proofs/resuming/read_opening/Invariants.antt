use Rattle.std.specs.Io.KnownBytes.{Consumes}
use Rattle.wb_lines.specs.Causes.{RisesBy}
use Rattle.wb_sessions.proofs.resuming.read_opening.Given as goal

abbrev pub invariant-loop : goal.invariant-loop
invariant-loop g l = Consumes (g.R.Source.remaining l.fn.reader) (g.R.Source.remaining l.reader) l.bytes.items
    × RisesBy (l.counter) (g.R.Source.reads l.fn.reader) (g.R.Source.reads l.reader)
