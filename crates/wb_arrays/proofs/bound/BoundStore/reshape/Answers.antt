use Rattle.std.proofs.Common.{◌≡◌, rules, sym, subst}
use Rattle.wb_arrays.specs.Elements.{left_out, HoldsDropped}
use Rattle.wb_arrays.proofs.Changes.{pairs-left_out}
use Rattle.wb_arrays.proofs.bound.BoundStore.reshape.Goals as goal

pub returns-clause-pairs : goal.returns-clause-pairs
returns-clause-pairs g c =
    let cmp = g.D.Index.Ord.cmp in
    let old = g.D.Domain.indices c.args._old.now in
    let new = g.D.Domain.indices c.args.new.now in
    let are : c.from_pairs.result ≡ left_out cmp c.args.self.now new = search rules in
    subst (λ ds. HoldsDropped cmp ds old new) (sym are) (pairs-left_out cmp g.met.D.Index.Key.exact c.args.self.now old new c.requires)
