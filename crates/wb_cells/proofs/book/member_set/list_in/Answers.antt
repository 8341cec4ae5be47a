use Rattle.std.proofs.Common.{refl}
use Rattle.std.proofs.lemmas.Iterator.{YieldsList-from_map, items_from_collect}
use Rattle.std.proofs.lemmas.Iterator.Consumers.{YieldsList-at, YieldsList-from_rest}
use Rattle.wb_cells.proofs.book.member_set.list_in.Goals as goal

pub returns : goal.returns
returns g c =
    let walk = YieldsList-from_map _ g.K.AsIndex.as_index (YieldsList-at c.map.ensures.source (YieldsList-from_rest c.args.set.now.keys c.iter.ensures.rest))
    c.map.ensures.closure (λ x r q k. (refl, k.met)) in
    items_from_collect c.collect.result c.collect.ensures.ran walk
