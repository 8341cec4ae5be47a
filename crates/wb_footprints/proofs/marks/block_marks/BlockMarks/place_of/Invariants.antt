use Rattle.std.proofs.Common.{◌≡◌}
use Rattle.wb_footprints.proofs.marks.block_marks.BlockMarks.place_of.Given as goal

abbrev pub invariant-loop-marks : goal.invariant-loop-marks
invariant-loop-marks l = l.place ≡ l.marks-index
