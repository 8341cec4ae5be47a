use Rattle.std.proofs.Common.{◌≡◌, length}
use Rattle.wb_keep.specs.Lines.{stuffed, unstuffed}
use Rattle.wb_keep.proofs.lines.is_plain.Given as goal

abbrev pub invariant-loop-rest : goal.invariant-loop-rest
invariant-loop-rest l = (stuffed l.rest ≡ l.rest) × (unstuffed l.rest ≡ l.rest) → (stuffed l.line ≡ l.line) × (unstuffed l.line ≡ l.line)

abbrev pub decreases-loop-rest : goal.decreases-loop-rest
decreases-loop-rest l = length l.rest
