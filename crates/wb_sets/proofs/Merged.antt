-- one pass over two ascending lists
use Rattle.std.proofs.Common.{List, [], ◌∷◌}
use Rattle.std.specs.declared.cmp.Ordering.{Ordering}
use Rattle.std.specs.declared.cmp.Ordering.TheVariants.{Less, Equal, Greater}
use Rattle.wb_sets.specs.Merge.{with_if, all_if}
use Rattle.wb_sets.specs.declared.merging.KeptKeys.{KeptKeys}

-- one of three lists, by how two keys compare
abbrev pub by_order : {K : Type 0} → Ordering → (less equal greater : List K) → List K
by_order Less a b c = a
by_order Equal a b c = b
by_order Greater a b c = c

-- x ∷ xs merged with a list, where `rest` merges xs with a list
abbrev pub merged_first : {K : Type 0} → (K → K → Ordering) → KeptKeys → K → (rest : List K → List K) → List K → List K
merged_first cmp kept x rest [] = with_if kept.first x (rest [])
merged_first cmp kept x rest (y ∷ ys) =
    by_order (cmp x y) (with_if kept.first x (rest (y ∷ ys))) (with_if kept.both x (rest ys)) (with_if kept.second y (merged_first cmp kept x rest ys))

-- the keys kept, in order: the lesser of the two heads goes first, and equal heads are one key
abbrev pub merged : {K : Type 0} → (K → K → Ordering) → KeptKeys → List K → List K → List K
merged cmp kept [] ys = all_if kept.second ys
merged cmp kept (x ∷ xs) ys = merged_first cmp kept x (merged cmp kept xs) ys
