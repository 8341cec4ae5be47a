use Rattle.std.proofs.Common.{◌≡◌, ◌≤◌, ℕ, Some, length, slice_get}
use Rattle.selective_undo.specs.Log.{Footprint}
use Rattle.wb_cells.specs.Schema.{workbook}
use Rattle.wb_log.specs.Kept.{kept_all}
use Rattle.wb_log.proofs.index.in_force.latest_from_the_end.Given as goal

-- no entry from here on keeps something
abbrev pub invariant-loop-at : goal.invariant-loop-at
invariant-loop-at l = record {
  within : l.at ≤ length l.entries;
  none_later : (q : ℕ) (g : Footprint workbook) → l.at ≤ q → slice_get (kept_all l.entries) q ≡ Some (Some g) → ⊥;
}

abbrev pub decreases-loop-at : goal.decreases-loop-at
decreases-loop-at l = l.at
