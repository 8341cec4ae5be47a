use Rattle.std.proofs.Common.{◌≡◌, take}
use Rattle.selective_undo.specs.Together.{together}
use Rattle.wb_cells.specs.Cells.{cell_cmp}
use Rattle.wb_cells.specs.Runs.{changes_in}
use Rattle.wb_layers.specs.Places.{IsFound}
use Rattle.wb_layers.proofs.laying.lay_run.Given as goal

-- the changes so far are laid
abbrev pub invariant-loop-at : goal.invariant-loop-at
invariant-loop-at l = record {
  laid : l.changes.items ≡ together cell_cmp l.fn.changes.items (take l.at (changes_in l.run.form));
  found : IsFound l.places l.changes.items;
}
