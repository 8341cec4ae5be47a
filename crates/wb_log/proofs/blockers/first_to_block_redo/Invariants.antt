use Rattle.std.proofs.Common.{◌≡◌, ◌+◌, ◌++◌, drop}
use Rattle.selective_undo.specs.Log.{blocks_redo, first_from}
use Rattle.wb_cells.specs.Reads.{all_read}
use Rattle.wb_log.specs.Kept.{footprint, kept_all}
use Rattle.wb_log.proofs.blockers.first_to_block_redo.Given as goal

abbrev pub invariant-loop-x : goal.invariant-loop-x
invariant-loop-x l = record {
  count : l.number ≡ l.from + l.x-index;
  ahead : first_from (blocks_redo (footprint (l.reads ++ all_read l.runs) l.delta)) l.number (kept_all (drop l.x-index l.later)) ≡ first_from
      (blocks_redo (footprint (l.reads ++ all_read l.runs) l.delta)) l.from (kept_all l.later);
}
