use Rattle.std.proofs.Common.{ℕ, Option, take}
use Rattle.selective_undo.specs.Log.{Footprint}
use Rattle.wb_cells.specs.Schema.{workbook}
use Rattle.wb_cells.specs.Reads.{all_read}
use Rattle.wb_footprints.specs.Relation.{IsLeastAfter}
use Rattle.wb_footprints.specs.Footprints.{IsIndexOf, touched_under}
use Rattle.wb_footprints.proofs.foot_index.FootIndex.first_to_touch_runs.Given as goal

abbrev pub invariant-loop-run : goal.invariant-loop-run
invariant-loop-run l = (footprints : ℕ → Option (Footprint workbook)) → IsIndexOf l.self footprints →
    IsLeastAfter (λ n. touched_under (footprints n) (all_read (take l.run-index l.runs))) l.after l.first
