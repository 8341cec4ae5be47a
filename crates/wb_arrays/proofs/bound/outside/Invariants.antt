use Rattle.std.proofs.Common.{◌≡◌, ◌++◌}
use Rattle.wb_arrays.specs.Elements.{left_out}
use Rattle.wb_arrays.proofs.bound.outside.Given as goal

abbrev pub invariant-loop-index : goal.invariant-loop-index
invariant-loop-index g l =
    let cmp = g.D.Index.Ord.cmp in
    let xs = g.D.Domain.indices l.domain in
    l.pairs.items ++ left_out cmp l.index-iterator xs ≡ left_out cmp l.map.entries xs
