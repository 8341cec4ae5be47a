use Rattle.std.proofs.Common.{◌≡◌, ◌-◌, length}
use Rattle.wb_text.specs.Parsed.Lines.{lines_at}
use Rattle.wb_text.proofs.Parsed.Listing.{onto}
use Rattle.wb_text.proofs.parsing.lines.lines_of.Given as goal

abbrev pub invariant-loop : goal.invariant-loop
invariant-loop l = lines_at (length l.fn.bytes) l.fn.bytes ≡ onto l.lines.items (lines_at (l.end - l.counter) l.rest)
