use Rattle.std.proofs.Common.{sym, subst}
use Rattle.wb_range.specs.Domain.{IsListedOnce}
use Rattle.wb_edit.proofs.Elements.{elements_once}
use Rattle.wb_edit.proofs.looks.elements.element_indices.Goals as goal

pub returns-in-Ok-clause-once : goal.returns-in-Ok-clause-once
returns-in-Ok-clause-once c = subst IsListedOnce (sym c.in-Ok.ensures.same) (elements_once c.args.book.now.cells c.args.array)
