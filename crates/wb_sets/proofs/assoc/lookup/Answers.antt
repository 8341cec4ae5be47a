use Rattle.wb_sets.proofs.Ascending.{found_by, gap_by}
use Rattle.wb_sets.proofs.assoc.lookup.Goals as goal

pub returns-clause-found : goal.returns-clause-found
returns-clause-found g c = found_by g.K.Ord.cmp g.met.K.Ord.total g.met.K.Key.exact c.args.keys.now c.args.key c.binary_search.result
    c.binary_search.ensures.bound c.binary_search.ensures.position

pub returns-clause-gap : goal.returns-clause-gap
returns-clause-gap g c = gap_by g.K.Ord.cmp g.met.K.Ord.total g.met.K.Key.exact c.args.keys.now c.args.key c.binary_search.result c.requires
    c.binary_search.ensures.bound c.binary_search.ensures.position
