use Rattle.std.proofs.Common.{◌≡◌, false, take}
use Rattle.selective_undo.specs.Changes.{changes}
use Rattle.wb_cells.specs.Cells.{cell_cmp}
use Rattle.wb_log.specs.Records.{lent_cells}
use Rattle.wb_log.proofs.blockers.is_changed.Given as goal

abbrev pub invariant-loop-at : goal.invariant-loop-at
invariant-loop-at l = changes cell_cmp (take l.at (lent_cells l.wrote)) l.cell ≡ false
