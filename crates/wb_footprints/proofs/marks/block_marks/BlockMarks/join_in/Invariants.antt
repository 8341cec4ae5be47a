use Rattle.std.proofs.Common.{take}
use Rattle.std.specs.List.{list_any}
use Rattle.wb_footprints.specs.Relation.{JoinedAfter}
use Rattle.wb_footprints.proofs.InReaches.{asked}
use Rattle.wb_footprints.proofs.marks.block_marks.BlockMarks.join_in.Given as goal

abbrev pub invariant-loop-marks : goal.invariant-loop-marks
invariant-loop-marks l = JoinedAfter l.initial.waiting l.waiting (λ n. list_any (λ r. asked l.indices r n) (take l.marks-index l.self.reaches.items)) l.after
