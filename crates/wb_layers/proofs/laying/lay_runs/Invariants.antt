use Rattle.std.proofs.Common.{◌≡◌, take}
use Rattle.selective_undo.specs.Together.{together}
use Rattle.wb_cells.specs.Cells.{cell_cmp}
use Rattle.wb_cells.specs.Runs.{all_changes}
use Rattle.wb_layers.specs.Places.{IsFound}
use Rattle.wb_layers.proofs.laying.lay_runs.Given as goal

-- the changes of the runs so far are laid
abbrev pub invariant-loop-run : goal.invariant-loop-run
invariant-loop-run l = record {
  laid : l.changes.items ≡ together cell_cmp l.fn.changes.items (all_changes (take l.run-index l.runs));
  found : IsFound l.places l.changes.items;
}
