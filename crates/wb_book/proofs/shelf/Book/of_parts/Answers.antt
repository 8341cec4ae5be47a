use Rattle.std.proofs.Common.{ap}
use Rattle.wb_book.proofs.Joining.{parts_are, parts_kept}
use Rattle.wb_book.proofs.shelf.Book.of_parts.Goals as goal

pub returns : goal.returns
returns c = λ s parts. ap (λ t. record { cells = t; writes = 0 })
    (parts_are c.args.cells c.args.arrays s c.ascend.ensures c.keys-arrays.ensures.ordered parts)

pub invariant_of-result : goal.invariant_of-result
invariant_of-result c = parts_kept c.args.cells c.args.arrays c.requires.0 c.ascend.ensures c.keys-arrays.ensures.ordered c.requires.1
