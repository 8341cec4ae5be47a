use Rattle.std.proofs.Common.{◌≤◌, ◌+◌, ◌-◌, length}
use Rattle.wb_footprints.proofs.Merging.{Merged}
use Rattle.wb_footprints.proofs.places.labels.Labels.meets.Given as goal

abbrev pub invariant-loop-at : goal.invariant-loop-at
invariant-loop-at l = record {
  at_most : l.at ≤ length l.self;
  by_most : l.by ≤ length l.others;
  merged : Merged l.self l.others l.at l.by;
}

abbrev pub decreases-loop-at : goal.decreases-loop-at
decreases-loop-at l = (length l.self - l.at) + (length l.others - l.by)
