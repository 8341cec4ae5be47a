use Rattle.wb_sets.proofs.Merge.{same_keys, kept_intersection}
use Rattle.wb_sets.proofs.assoc.Assoc.intersection.Goals as goal

pub returns-clause-members : goal.returns-clause-members
returns-clause-members g c = same_keys _ _ _ _ (kept_intersection g.K.Ord.cmp g.met.K.Ord.total g.met.K.Key.exact c.args.self.now c.args.other.now)
    c.merged_with.ensures.members
