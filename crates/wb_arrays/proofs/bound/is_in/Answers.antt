use Rattle.wb_range.proofs.Lookup.{has_by_contains}
use Rattle.wb_arrays.proofs.bound.is_in.Goals as goal

pub returns : goal.returns
returns g c = has_by_contains g.D.Index.Ord.cmp g.met.D.Index.Ord.total g.met.D.Index.Key.exact (g.D.Domain.indices c.args.domain.now) c.args.index
    c.contains.result c.contains.ensures
