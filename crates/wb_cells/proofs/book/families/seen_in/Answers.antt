use Rattle.std.proofs.Common.{rules, tests, refl, ◌∙◌}
use Rattle.std.proofs.lemmas.Iterator.{YieldsList-from_map, items_from_collect}
use Rattle.std.proofs.lemmas.Iterator.Consumers.{YieldsList-at, YieldsList-from_rest}
use Rattle.std.proofs.lemmas.Iterator.Search.{YieldsList-from_take_while}
use Rattle.std.proofs.lemmas.Result.{IfOk-at_ok}
use Rattle.wb_cells.proofs.Families.{named, map-same, seen_found}
use Rattle.wb_cells.proofs.book.families.seen_in.Goals as goal

pub returns-in-Ok : goal.returns-in-Ok
returns-in-Ok c =
    let p = c.args.pattern.now in
    let walk = YieldsList-from_take_while _ (named p) (YieldsList-at c.take_while.ensures.source (YieldsList-from_rest c.range.result refl))
    c.take_while.ensures.closure c.take_while.ensures.done (λ x b q k. search (rules, tests)) in
    let pairs = YieldsList-from_map _ (λ e. e) (YieldsList-at c.map.ensures.source walk) c.map.ensures.closure (λ x r q k. search (rules, tests)) in
    let made = items_from_collect c.collect-found.result c.collect-found.ensures.ran pairs in
    let found = seen_found c.args.cells.now p c.first.result c.range.result c.requires c.range.ensures.ordered c.first.ensures (c.range.ensures.between tt) in
    IfOk-at_ok _ c.in-Ok.is made ∙ map-same _ ∙ found
