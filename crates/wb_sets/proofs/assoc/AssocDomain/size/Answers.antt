use Rattle.wb_sets.proofs.Ascending.{IsListedOnce-sorted}
use Rattle.wb_sets.proofs.assoc.AssocDomain.size.Goals as goal

pub returns-clause-once : goal.returns-clause-once
returns-clause-once g c = rw (← c.self.view_is) (IsListedOnce-sorted g.K.Ord.cmp g.met.K.Ord.total g.met.K.Key.exact c.self.inside.keys.items c.self.invariant)
