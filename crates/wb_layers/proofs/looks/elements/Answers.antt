use Rattle.std.proofs.Common.{refl}
use Rattle.std.proofs.lemmas.Iterator.{YieldsList-from_slice, items_from_collect}
use Rattle.std.proofs.lemmas.Iterator.Consumers.{YieldsList-at, YieldsList-from_filter_map}
use Rattle.wb_cells.specs.Readers.{element_in}
use Rattle.wb_layers.proofs.looks.elements.Goals as goal

pub returns : goal.returns
returns c =
    let walk = YieldsList-from_filter_map _ element_in (YieldsList-at c.filter_map.ensures.source (YieldsList-from_slice c.args.shown.now cc))
    c.filter_map.ensures.closure (λ x r q k. (refl, k.met)) in
    items_from_collect c.collect.result c.collect.ensures.ran walk
