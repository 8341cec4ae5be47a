use Rattle.std.proofs.Common.{take}
use Rattle.std.specs.List.{list_any}
use Rattle.wb_cells.specs.Runs.{changes_in}
use Rattle.wb_footprints.specs.Relation.{JoinedAfter}
use Rattle.wb_footprints.specs.Footprints.{marked_own}
use Rattle.wb_footprints.specs.Swept.{AreSwept}
use Rattle.wb_footprints.proofs.foot_index.FootIndex.join_own_each.Given as goal

abbrev pub invariant-loop-at : goal.invariant-loop-at
invariant-loop-at l = record {
  joined : JoinedAfter l.initial.waiting l.waiting (λ n. list_any (λ x. marked_own l.self x.cell n) (take l.at (changes_in l.cells.form))) l.after;
  swept : AreSwept l.self l.swept l.waiting l.after;
}
