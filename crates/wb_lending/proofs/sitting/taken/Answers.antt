use Rattle.wb_lending.proofs.sitting.taken.Goals as goal

pub returns-clause-came : goal.returns-clause-came
returns-clause-came g c guest is_guest = (c.next.new.self, _, c.next.ensures.came guest is_guest)
