use Rattle.wb_arrays.specs.Elements.{HoldsExactly}
use Rattle.wb_tests.proofs.index_sets.arrays.numbered.Given as goal

abbrev pub invariant-loop-p : goal.invariant-loop-p
invariant-loop-p g l = HoldsExactly g.D.Index.Ord.cmp l.whole (g.D.Domain.indices l.domain)
