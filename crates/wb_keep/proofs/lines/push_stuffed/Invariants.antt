use Rattle.std.proofs.Common.{◌≡◌, ◌++◌, length}
use Rattle.wb_keep.specs.Lines.{stuffed}
use Rattle.wb_keep.proofs.lines.push_stuffed.Given as goal

abbrev pub invariant-loop-rest : goal.invariant-loop-rest
invariant-loop-rest l = l.block.items ++ stuffed l.rest ≡ l.fn.block.items ++ stuffed l.line

abbrev pub decreases-loop-rest : goal.decreases-loop-rest
decreases-loop-rest l = length l.rest
