use Rattle.wb_arrays.proofs.pieces.Pieces.mapping.Goals as goal

pub returns-clause-below : goal.returns-clause-below
returns-clause-below g c = rw (← c.self.view_is) c.self.invariant.below
