use Rattle.std.proofs.Common.{take}
use Rattle.std.specs.List.{list_any}
use Rattle.wb_cells.specs.Runs.{all_changes}
use Rattle.wb_footprints.specs.Relation.{JoinedAfter}
use Rattle.wb_footprints.specs.Footprints.{marked_own}
use Rattle.wb_footprints.specs.Swept.{AreSwept}
use Rattle.wb_footprints.proofs.foot_index.FootIndex.join_own_all.Given as goal

abbrev pub invariant-loop-run : goal.invariant-loop-run
invariant-loop-run l = record {
  joined : JoinedAfter l.initial.waiting l.waiting (λ n. list_any (λ x. marked_own l.self x.cell n) (all_changes (take l.run-index l.runs))) l.after;
  swept : AreSwept l.self l.swept l.waiting l.after;
}
