use Rattle.std.proofs.Common.{◌-◌, length, sym, ◌∙◌, arith}
use Rattle.wb_text.proofs.Parsed.Listing.{ended, no_line, more_lines}
use Rattle.wb_text.proofs.parsing.lines.lines_of.Goals as goal

pub returns-then-is_end : goal.returns-then-is_end
returns-then-is_end c =
    ended (length c.args.bytes.now - c.loop.counter) c.loop.lines.items c.loop.rest.now (omega arith) (sym c.is_end.ensures ∙ c.if-is_end.true) ∙
    sym c.loop.invariant

pub returns-in-None : goal.returns-in-None
returns-in-None c =
    let read = rw c.in-None.is at c.in_ok-read.ensures in
    no_line (length c.args.bytes.now - c.loop.counter) c.loop.lines.items c.loop.rest.now (sym c.is_end.ensures ∙ c.if-is_end.false) read ∙ sym c.loop.invariant

pub loop-preserved : goal.loop-preserved
loop-preserved c =
    let read = rw c.in-Some.is at c.in_ok-read.ensures in
    rw c.in_ok-push.ensures.items (
    c.loop.invariant ∙ more_lines (length c.args.bytes.now) c.loop.counter c.loop.lines.items _ c.loop.rest.now _ (omega arith)
    (sym c.is_end.ensures ∙ c.if-is_end.false) read)
