-- Changes whose cells are of one row.
use Rattle.std.specs.Prelude.{◌≡◌, Bool, List}
use Rattle.std.specs.List.{list_any}
use Rattle.wb_cells.specs.declared.cells.cell.Cell.{Cell}
use Rattle.wb_cells.specs.Cells.{Changes}
use Rattle.wb_cells.specs.declared.values.index.Index.{Index}
use Rattle.wb_cells.specs.declared.changes.row.IndexedRow.{IndexedRow}
use Rattle.wb_footprints.specs.Footprints.{cells_of, run_cells}

-- the cells of changes are of a row, each at an index
abbrev pub AreOfRow : IndexedRow → Changes → Type 0
AreOfRow row xs = (ps : List Index) × (cells_of xs ≡ run_cells row ps)

-- the cells of changes are those of a row at some indices, in any order: a test that finds one of these finds one of those
abbrev pub AreAt : IndexedRow → List Index → Changes → Type 0
AreAt row ps xs = (f : Cell → Bool) → list_any f (cells_of xs) ≡ list_any f (run_cells row ps)
