use Rattle.wb_cells.proofs.Ascending.{stored_ascends}
use Rattle.wb_cells.proofs.book.stored.StoredCells.ascend.Goals as goal

pub returns : goal.returns
returns c = rw (← c.self.view_is) (stored_ascends c.self.inside.low c.self.inside.members c.self.inside.high c.self.invariant)
