use Rattle.wb_sets.specs.Subset.{AreInside}
use Rattle.wb_sets.proofs.sparse.Sparse.from_slice.Goals as goal

pub invariant_of-result : goal.invariant_of-result
invariant_of-result g c =
    let inside : AreInside c.args.indices.now c.args.parent = c.are_inside.ensures.0 c.if-not-are_inside.false in
    λ i m. inside i ((c.in-Ok.ensures.members i).0 m)
