use Rattle.std.proofs.Common.{rules}
use Rattle.std.proofs.lemmas.List.Sorted.{answers_always}
use Rattle.wb_arrays.proofs.PiecePlaces.{found, absent}
use Rattle.wb_arrays.proofs.pieces.place_in.Goals as goal

pub returns-clause-found : goal.returns-clause-found
returns-clause-found g c =
    let facts = c.binary_search_by_key.ensures in
    found g.I.Ord.cmp g.met.I.Ord.total g.met.I.Key.exact c.args.pairs.now c.args.index c.binary_search_by_key.result c.ok.result c.ok.ensures.value
    facts.bound (facts.position (λ pair. pair.0) (answers_always _ _ _ (λ f a r h called. search rules)))

pub returns-clause-absent : goal.returns-clause-absent
returns-clause-absent g c =
    let facts = c.binary_search_by_key.ensures in
    absent g.I.Ord.cmp g.met.I.Ord.total g.met.I.Key.exact c.args.pairs.now c.args.index c.binary_search_by_key.result c.ok.result c.ok.ensures.value
    c.requires facts.bound (facts.position (λ pair. pair.0) (answers_always _ _ _ (λ f a r h called. search rules)))
