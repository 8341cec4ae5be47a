use Rattle.std.proofs.Common.{◌∙◌, ap}
use Rattle.wb_arrays.specs.Elements.{restored}
use Rattle.wb_arrays.proofs.Changes.{restored-undoes}
use Rattle.wb_arrays.proofs.store.Store.unreshape.Goals as goal

pub returns-in-Ok-clause-undoes : goal.returns-in-Ok-clause-undoes
returns-in-Ok-clause-undoes g c = λ before held left agree q.
    let cmp = g.Self.Index.Ord.cmp in
    let es = g.Self.Store.contents c.args.self.now in
    let old = g.Self.Dom.Domain.indices c.args.old.now in
    let new = g.Self.Dom.Domain.indices c.args.new.now in
    c.in-Ok.ensures.elements q ∙ ap (λ ds. restored cmp es ds old new q) left ∙
    restored-undoes cmp g.met.Self.Index.Key.exact es before old new c.requires.holds held agree q
