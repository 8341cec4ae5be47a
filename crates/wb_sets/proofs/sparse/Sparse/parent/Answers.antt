use Rattle.wb_sets.proofs.sparse.Sparse.parent.Goals as goal

pub returns-clause-inside : goal.returns-clause-inside
returns-clause-inside g c = rw (← c.self.view_is) c.self.invariant
