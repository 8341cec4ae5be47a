use Rattle.std.proofs.Common.{◌≡◌, length}
use Rattle.wb_keep.specs.Lines.{has_hole}
use Rattle.wb_keep.proofs.lines.has_hole.Given as goal

abbrev pub invariant-loop-rest : goal.invariant-loop-rest
invariant-loop-rest l = has_hole l.rest ≡ has_hole l.line

abbrev pub decreases-loop-rest : goal.decreases-loop-rest
decreases-loop-rest l = length l.rest
