use Rattle.wb_sets.proofs.sparse.Sparse.remove.Goals as goal

pub invariant_of-self : goal.invariant_of-self
invariant_of-self g c = λ i m. c.self.invariant i ((c.remove.ensures.members i).0 m).0

pub returns-clause-members : goal.returns-clause-members
returns-clause-members g c = rw (← c.self.view_is) c.remove.ensures.members
