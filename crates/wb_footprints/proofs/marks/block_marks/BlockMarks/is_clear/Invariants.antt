use Rattle.std.proofs.Common.{◌≡◌, false, take}
use Rattle.wb_cells.specs.declared.values.index.Index.{Index}
use Rattle.wb_footprints.specs.Reaches.{in_reaches}
use Rattle.wb_footprints.proofs.marks.block_marks.BlockMarks.is_clear.Given as goal

abbrev pub invariant-loop-marks : goal.invariant-loop-marks
invariant-loop-marks l = (p : Index) → in_reaches (take l.marks-index l.self.reaches.items) p l.number ≡ false
