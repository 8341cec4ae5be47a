use Rattle.std.proofs.Common.{◌≡◌, ◌<◌, ℕ, ℤ, List, Some, length, slice_get}
use Rattle.std.specs.List.{Contains}
use Rattle.wb_rect.specs.Product.{product}
use Rattle.wb_sets.proofs.sparse.all_inside.Given as goal

abbrev pub invariant-loop-p : goal.invariant-loop-p
invariant-loop-p g l = record {
  end : l.p-end ≡ length l.indices;
  inside : (q : ℕ) (i : List ℤ) → q < l.p → slice_get l.indices q ≡ Some i → Contains (product l.parent) i;
}
