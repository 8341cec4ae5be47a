use Rattle.std.proofs.Common.{◌≡◌, true, map, take}
use Rattle.wb_cells.specs.declared.changes.row.IndexedRow.TheVariants.{Members}
use Rattle.wb_cells.specs.declared.values.index.Index.{Index}
use Rattle.wb_cells.specs.declared.values.index.Index.TheVariants.{Text}
use Rattle.wb_cells.specs.MemberRuns.{key_found}
use Rattle.wb_cells.specs.WellFormed.{has}
use Rattle.wb_cells.proofs.book.label_runs.labels_found.Given as goal

abbrev pub invariant-loop-at : goal.invariant-loop-at
invariant-loop-at g l = record {
  found : l.found ≡ (Members l.domain, map (key_found Text (map g.K.AsIndex.as_index l.keys.keys)) (take l.at l.labels.1));
  members : (j : Index) → has (map g.K.AsIndex.as_index l.left) j ≡ true → has (map g.K.AsIndex.as_index l.keys.keys) j ≡ true;
}
