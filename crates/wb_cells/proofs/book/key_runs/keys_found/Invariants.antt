use Rattle.std.proofs.Common.{◌≡◌, true, map, take}
use Rattle.wb_cells.specs.declared.values.index.Index.{Index}
use Rattle.wb_cells.specs.MemberRuns.{key_found}
use Rattle.wb_cells.specs.WellFormed.{has}
use Rattle.wb_cells.proofs.book.key_runs.keys_found.Given as goal

abbrev pub invariant-loop-key : goal.invariant-loop-key
invariant-loop-key g l = record {
  found : l.found.items ≡ map (key_found g.K.AsIndex.as_index (map g.K.AsIndex.as_index l.keys.keys)) (take l.key-index l.changes);
  members : (j : Index) → has (map g.K.AsIndex.as_index l.left) j ≡ true → has (map g.K.AsIndex.as_index l.keys.keys) j ≡ true;
}
