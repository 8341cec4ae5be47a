use Rattle.wb_sets.proofs.assoc.Assoc.merged_with.Goals as goal

pub returns-clause-members : goal.returns-clause-members
returns-clause-members g c = rw (c.as_slice.ensures.value, c.as_slice-2.ensures.value, c.self.view_is, c.other.view_is) at c.in_ok-keys.ensures.members
