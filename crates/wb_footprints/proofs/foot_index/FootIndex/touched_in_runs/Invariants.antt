use Rattle.std.proofs.Common.{ℕ, Option, take}
use Rattle.std.specs.List.{list_any}
use Rattle.selective_undo.specs.Log.{Footprint}
use Rattle.wb_cells.specs.Runs.{all_changes}
use Rattle.wb_cells.specs.Schema.{workbook}
use Rattle.wb_footprints.specs.Relation.{IsLeastAfter}
use Rattle.wb_footprints.specs.Places.{own}
use Rattle.wb_footprints.specs.Footprints.{IsIndexOf, touched_by}
use Rattle.wb_footprints.proofs.foot_index.FootIndex.touched_in_runs.Given as goal

abbrev pub invariant-loop-run : goal.invariant-loop-run
invariant-loop-run l = (footprints : ℕ → Option (Footprint workbook)) → IsIndexOf l.self footprints →
    IsLeastAfter (λ n. list_any (λ x. touched_by (footprints n) (own x.cell)) (all_changes (take l.run-index l.runs))) l.after l.first
