-- The parts of a workbook: its stored cells, and its arrays.
use Rattle.std.specs.Prelude.{◌≡◌, option_map}
use Rattle.std.specs.BTreeMap.{BTreeMap}
use Rattle.wb_cells.specs.declared.cells.cell.Cell.{Cell}
use Rattle.wb_cells.specs.declared.cells.value.Value.{Value}
use Rattle.wb_cells.specs.Cells.{Stored, Name, Cells, state_of}
use Rattle.wb_cells.specs.WellFormed.{IsWellFormed, array_at}
use Rattle.wb_book.specs.Stored.{stored_cells}
use Rattle.wb_book.specs.Kept.{Pieced, array_in, Agree}
use Rattle.wb_book.specs.Shelf.{lies_by}

-- these cells are the stored ones of a well-formed workbook, and these arrays have its elements, each by the mapping of its
-- domain
pub record AreParts (cells : Stored) (arrays : BTreeMap Name Pieced) (s : Cells) : Type 0 where
  pub well_formed : IsWellFormed s
  pub stored : state_of cells ≡ stored_cells s
  pub elements : Agree arrays.entries s
  pub lie : (a : Name) → option_map (λ p. p.1) (array_in arrays.entries a) ≡ lies_by s (array_at s a)
