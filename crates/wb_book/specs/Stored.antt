-- The stored cells of a workbook: all but those that say that an index is in a rectangular domain, and those of elements.
use Rattle.std.specs.FinMap.{retain_keys}
use Rattle.wb_cells.specs.Cells.{Cells}
use Rattle.wb_book.specs.Joined.{is_stored}

abbrev pub stored_cells : Cells → Cells
stored_cells s = retain_keys s is_stored
