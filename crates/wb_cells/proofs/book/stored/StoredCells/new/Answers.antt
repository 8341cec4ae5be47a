use Rattle.wb_cells.proofs.Parts.{nothing-kept}
use Rattle.wb_cells.proofs.book.stored.StoredCells.new.Goals as goal

pub invariant_of-result : goal.invariant_of-result
invariant_of-result c =
    nothing-kept c.new.result c.new-2.result c.new-3.result c.new.ensures.empty c.new-2.ensures.empty c.new-3.ensures.empty
    c.new.ensures.ordered c.new-2.ensures.ordered c.new-3.ensures.ordered
