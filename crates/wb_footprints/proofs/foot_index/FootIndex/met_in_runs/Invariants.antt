use Rattle.std.proofs.Common.{ℕ, ◌<◌, Option, take}
use Rattle.std.specs.Prelude.{IfSome}
use Rattle.selective_undo.specs.Log.{Footprint}
use Rattle.wb_cells.specs.Runs.{all_changes}
use Rattle.wb_cells.specs.Schema.{workbook}
use Rattle.wb_footprints.specs.Relation.{IsLeastAfter}
use Rattle.wb_footprints.specs.Footprints.{IsIndexOf, any_met}
use Rattle.wb_footprints.proofs.foot_index.FootIndex.met_in_runs.Given as goal

abbrev pub invariant-loop-run : goal.invariant-loop-run
invariant-loop-run l = record {
  least : (footprints : ℕ → Option (Footprint workbook)) → IsIndexOf l.self footprints →
      IsLeastAfter (λ n. any_met (footprints n) (all_changes (take l.run-index l.runs))) l.after l.first;
  above : IfSome l.first (λ j. l.after < j);
}
