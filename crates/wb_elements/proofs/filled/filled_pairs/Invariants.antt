use Rattle.std.proofs.Common.{◌≡◌, take}
use Rattle.std.specs.List.Sorted.{IsStrictlySortedBy}
use Rattle.std.specs.Map.{keys_of}
use Rattle.wb_cells.specs.declared.values.index.Index.TheVariants.{Point}
use Rattle.wb_elements.specs.Piecewise.Changed.{all_set}
use Rattle.wb_elements.specs.Piecewise.Indexed.{indexed, AllOf}
use Rattle.wb_elements.specs.Piecewise.Marked.{as_changes}
use Rattle.wb_elements.proofs.filled.filled_pairs.Given as goal

abbrev pub invariant-loop-at : goal.invariant-loop-at
invariant-loop-at g l = record {
  elements : all_set (indexed g.I.AsIndex.as_index l.pairs.items) ≡ take l.at (as_changes Point (g.B.ChangeBlock.entries l.block));
  kept : AllOf g.I.AsIndex.as_index g.I.AsIndex.is_of l.pairs.items;
  ascending : IsStrictlySortedBy g.I.Ord.cmp (keys_of l.pairs.items);
}
