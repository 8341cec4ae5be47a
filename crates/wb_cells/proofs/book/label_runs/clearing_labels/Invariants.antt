use Rattle.std.proofs.Common.{◌≡◌, ◌++◌, None, map}
use Rattle.wb_cells.specs.declared.changes.row.IndexedRow.TheVariants.{Members}
use Rattle.wb_cells.specs.MemberRuns.{members_to}
use Rattle.wb_cells.specs.Runs.{labelled_changes}
use Rattle.wb_cells.proofs.book.label_runs.clearing_labels.Given as goal

-- the changes so far and those of the keys that are left
abbrev pub invariant-loop-key : goal.invariant-loop-key
invariant-loop-key g l = record {
  row : l.found.0 ≡ Members l.domain;
  changes : labelled_changes (Members l.domain) l.found.1 ++ members_to l.domain None (map g.K.AsIndex.as_index l.key-iterator) ≡
      members_to l.domain None (map g.K.AsIndex.as_index l.keys.keys);
}
