use Rattle.std.proofs.Common.{◌≡◌, ◌<◌, ℕ, ℤ, List, Some, slice_get}
use Rattle.std.specs.List.{Contains}
use Rattle.wb_rect.specs.Product.{product}
use Rattle.wb_sets.proofs.sparse.are_inside.Given as goal

abbrev pub invariant-loop-i : goal.invariant-loop-i
invariant-loop-i g l = (q : ℕ) (j : List ℤ) → q < l.i-index → slice_get l.indices q ≡ Some j → Contains (product l.parent) j
