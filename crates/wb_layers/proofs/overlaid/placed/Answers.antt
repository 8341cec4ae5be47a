use Rattle.std.proofs.Common.{rules, tests, refl, ◌∙◌}
use Rattle.std.proofs.lemmas.Iterator.{YieldsList-from_map, items_from_collect}
use Rattle.std.proofs.lemmas.Iterator.Consumers.{YieldsList-at, YieldsList-from_rest}
use Rattle.std.proofs.lemmas.Iterator.Search.{YieldsList-from_take_while}
use Rattle.std.proofs.lemmas.Result.{IfOk-weaker}
use Rattle.wb_cells.proofs.Families.{map-same}
use Rattle.wb_layers.proofs.Families.{names, family_placed}
use Rattle.wb_layers.proofs.overlaid.placed.Goals as goal

pub returns : goal.returns
returns c =
    let p = c.args.pattern.now in
    let walk = YieldsList-from_take_while _ (names p) (YieldsList-at c.take_while.ensures.source (YieldsList-from_rest c.range.result refl))
    c.take_while.ensures.closure c.take_while.ensures.done (λ x b q k. search (rules, tests)) in
    let pairs = YieldsList-from_map _ (λ e. e) (YieldsList-at c.map.ensures.source walk) c.map.ensures.closure (λ x r q k. search (rules, tests)) in
    let made = items_from_collect c.collect.result c.collect.ensures.ran pairs in
    let found = family_placed p c.first.result c.first.ensures c.args.places.now c.range.result c.requires c.range.ensures.ordered (c.range.ensures.between tt) in
    IfOk-weaker c.collect.result _ _ (λ v is. is ∙ map-same _ ∙ found) made
