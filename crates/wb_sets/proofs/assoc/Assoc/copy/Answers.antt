use Rattle.wb_sets.proofs.assoc.Assoc.copy.Goals as goal

pub invariant_of-result : goal.invariant_of-result
invariant_of-result g c = rw (c.in-Ok.ensures.items, c.as_slice.ensures.value) c.self.invariant
