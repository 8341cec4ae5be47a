use Rattle.std.proofs.Common.{take}
use Rattle.wb_keeping.specs.Granting.Granting.{AddsLinesOf, undos_of}
use Rattle.wb_keeping.proofs.lines.push_undos.Given as goal

abbrev pub invariant-loop-number : goal.invariant-loop-number
invariant-loop-number l = AddsLinesOf (undos_of (take l.number-index l.each)) l.fn.changes l.changes
