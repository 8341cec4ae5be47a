use Rattle.std.proofs.Common.{◌≡◌, ◌+◌, drop}
use Rattle.selective_undo.specs.Log.{blocks_undo, first_from}
use Rattle.wb_log.specs.Kept.{kept_all}
use Rattle.wb_log.specs.Records.{lent_cells}
use Rattle.wb_log.proofs.blockers.first_to_block_undo.Given as goal

abbrev pub invariant-loop-x : goal.invariant-loop-x
invariant-loop-x l = record {
  count : l.number ≡ l.from + l.x-index;
  ahead : first_from (blocks_undo (lent_cells l.before)) l.number (kept_all (drop l.x-index l.later)) ≡ first_from (blocks_undo (lent_cells l.before)) l.from (kept_all l.later);
}
