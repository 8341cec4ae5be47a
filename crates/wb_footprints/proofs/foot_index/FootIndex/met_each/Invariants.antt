use Rattle.std.proofs.Common.{ℕ, ◌<◌, Option, take}
use Rattle.std.specs.Prelude.{IfSome}
use Rattle.selective_undo.specs.Log.{Footprint}
use Rattle.wb_cells.specs.Schema.{workbook}
use Rattle.wb_cells.specs.Runs.{changes_in}
use Rattle.wb_footprints.specs.Relation.{IsLeastAfter}
use Rattle.wb_footprints.specs.Footprints.{IsIndexOf, any_met}
use Rattle.wb_footprints.proofs.foot_index.FootIndex.met_each.Given as goal

abbrev pub invariant-loop-at : goal.invariant-loop-at
invariant-loop-at l = record {
  least : (footprints : ℕ → Option (Footprint workbook)) → IsIndexOf l.self footprints →
      IsLeastAfter (λ n. any_met (footprints n) (take l.at (changes_in l.cells.form))) l.after l.first;
  above : IfSome l.first (λ j. l.after < j);
}
