use Rattle.wb_desk.proofs.journal.Journal.cause.Goals as goal

pub returns : goal.returns
returns g c = rw (← c.self.view_is) (rw c.as_slice.ensures.value at c.first_cause.ensures)
