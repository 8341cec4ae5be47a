use Rattle.wb_sets.proofs.Ascending.{place_found}
use Rattle.wb_sets.proofs.assoc.place_in.Goals as goal

pub returns : goal.returns
returns g c = place_found g.K.Ord.cmp g.met.K.Ord.total g.met.K.Key.exact c.args.keys.now c.args.key c.lookup.result c.ok.result c.ok.ensures.value c.requires
    c.lookup.ensures.found c.lookup.ensures.gap
