use Rattle.wb_elements.proofs.Ascending.{ascending-nothing}
use Rattle.wb_book.proofs.looks.elements.Goals as goal

pub returns-in-None-clause-ascending : goal.returns-in-None-clause-ascending
returns-in-None-clause-ascending c = rw c.new.ensures.items (ascending-nothing _)
