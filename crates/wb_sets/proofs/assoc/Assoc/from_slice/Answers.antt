use Rattle.wb_sets.proofs.Gathered.{members-gathered, ascending-gathered}
use Rattle.wb_sets.proofs.assoc.Assoc.from_slice.Goals as goal

pub invariant_of-result : goal.invariant_of-result
invariant_of-result g c = ascending-gathered g.K.Ord.cmp g.met.K.Ord.total g.met.K.Key.exact g.K.PartialEq.eq g.met.K.Eq.laws g.met.K.Ord.matches_eq
    c.sort_unstable.new.self.items c.dedup.new.self.items c.sort_unstable.ensures.sorted c.dedup.ensures.filtered

pub returns-clause-members : goal.returns-clause-members
returns-clause-members g c =
    let same_items = rw c.in-Ok.ensures.items at c.sort_unstable.ensures.permutation in
    λ k. members-gathered g.K.Ord.cmp g.met.K.Ord.total g.met.K.Key.exact g.K.PartialEq.eq g.met.K.Eq.laws g.met.K.Ord.matches_eq c.args.keys.now
    c.sort_unstable.new.self.items c.dedup.new.self.items same_items c.dedup.ensures.filtered k

pub returns-clause-ascending : goal.returns-clause-ascending
returns-clause-ascending g c = ascending-gathered g.K.Ord.cmp g.met.K.Ord.total g.met.K.Key.exact g.K.PartialEq.eq g.met.K.Eq.laws g.met.K.Ord.matches_eq
    c.sort_unstable.new.self.items c.dedup.new.self.items c.sort_unstable.ensures.sorted c.dedup.ensures.filtered
