use Rattle.std.proofs.Common.{◌≡◌, true, is_some, map, take}
use Rattle.std.specs.List.{list_all}
use Rattle.wb_cells.proofs.book.key_runs.keys_set.Given as goal

abbrev pub invariant-loop-key : goal.invariant-loop-key
invariant-loop-key g l = record {
  keys : l.keys.items ≡ map (λ e. e.0) (take l.key-index l.changes);
  formed : list_all g.K.AsIndex.is_of (map g.K.AsIndex.as_index l.keys.items) ≡ true;
  set : list_all (λ e. is_some e.1) (take l.key-index l.changes) ≡ true;
}
