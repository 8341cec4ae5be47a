use Rattle.wb_cells.proofs.Ascending.{all_listed}
use Rattle.wb_cells.proofs.book.stored.StoredCells.list.Goals as goal

pub returns : goal.returns
returns c = rw (← c.self.view_is) (
    all_listed c.self.inside.low c.self.inside.members c.self.inside.high c.self.invariant c.new-found.result.items c.list_map.new.found.items
    c.list_sets.new.found.items c.list_map-2.new.found.items
    c.new-found.ensures.items c.in_ok-list_map.ensures c.in_ok-list_sets.ensures c.in_ok-list_map-2.ensures)
