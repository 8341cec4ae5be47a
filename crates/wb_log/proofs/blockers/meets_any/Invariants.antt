use Rattle.std.proofs.Common.{◌≡◌, ◌++◌, false, take}
use Rattle.selective_undo.specs.Log.{meets_any}
use Rattle.wb_cells.specs.Reads.{all_read}
use Rattle.wb_log.specs.Kept.{footprint}
use Rattle.wb_log.specs.Records.{lent_cells}
use Rattle.wb_log.proofs.blockers.meets_any.Given as goal

abbrev pub invariant-loop-at : goal.invariant-loop-at
invariant-loop-at l = meets_any (footprint (l.reads ++ all_read l.runs) (lent_cells l.wrote)) (take l.at (lent_cells l.cells)) ≡ false
