use Rattle.std.proofs.Common.{◌-◌, ◌≤◌, length, take}
use Rattle.std.specs.List.{list_any}
use Rattle.wb_footprints.specs.Relation.{JoinedAfter}
use Rattle.wb_footprints.specs.Marks.{marked}
use Rattle.wb_footprints.specs.Points.{point_cmp}
use Rattle.wb_footprints.proofs.marks.point_marks.join_others.Given as goal

abbrev pub invariant-loop-at : goal.invariant-loop-at
invariant-loop-at l = record {
  within : l.at ≤ length l.points;
  joined : JoinedAfter l.initial.waiting l.waiting (λ n. list_any (λ p. marked point_cmp l.marks p n) (take l.at l.points)) l.after;
}

abbrev pub decreases-loop-at : goal.decreases-loop-at
decreases-loop-at l = length l.points - l.at
