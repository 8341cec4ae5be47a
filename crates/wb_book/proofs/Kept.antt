-- What stands in a cell of what is kept.
use Rattle.std.proofs.Common.{◌≡◌}
use Rattle.std.specs.BTreeMap.{BTreeMap}
use Rattle.std.specs.FinMap.{get}
use Rattle.wb_cells.specs.declared.cells.cell.Cell.{Cell}
use Rattle.wb_cells.specs.Cells.{Stored, Name}
use Rattle.wb_book.specs.Joined.{answer, stored_in, element_in}
use Rattle.wb_book.proofs.Joined.{get-joined}
use Rattle.wb_book.specs.Shelf.{Pieced, cells_of, IsShelf}

pub get-cells_of : (cells : Stored) (arrays : BTreeMap Name Pieced) → IsShelf cells arrays → (c : Cell) →
    get (cells_of cells arrays) c ≡ answer (stored_in cells.entries) (element_in arrays.entries) c
get-cells_of cells arrays kept c = get-joined cells.entries arrays.entries
    (record { stored = kept.stored; ascending = kept.ascending; by_name = kept.by_name }) c
