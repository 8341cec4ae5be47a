use Rattle.std.proofs.Common.{◌≡◌, true, is_some, map, take}
use Rattle.std.specs.List.{list_all}
use Rattle.wb_cells.specs.declared.values.index.Index.TheVariants.{Text}
use Rattle.wb_cells.proofs.book.label_runs.texts_set.Given as goal

abbrev pub invariant-loop-at : goal.invariant-loop-at
invariant-loop-at g l = record {
  keys : map g.K.AsIndex.as_index l.keys.items ≡ map (λ e. Text e.0) (take l.at l.labels.1);
  formed : list_all g.K.AsIndex.is_of (map g.K.AsIndex.as_index l.keys.items) ≡ true;
  set : list_all (λ e. is_some e.1) (take l.at l.labels.1) ≡ true;
}
