use Rattle.std.proofs.Common.{◌≡◌, ◌++◌, length}
use Rattle.wb_keep.specs.Lines.{unstuffed, unstuffed_from}
use Rattle.wb_keep.proofs.lines.unstuffed.Given as goal

abbrev pub invariant-loop-rest : goal.invariant-loop-rest
invariant-loop-rest l = l.plain.items ++ unstuffed_from l.escaped l.rest ≡ unstuffed l.line

abbrev pub decreases-loop-rest : goal.decreases-loop-rest
decreases-loop-rest l = length l.rest
