-- The law of a workbook's lines: a well-formed workbook comes back from them.
use Rattle.std.specs.Prelude.{◌≡◌, List, map, Option, Some, option_map}
use Rattle.wb_cells.specs.Cells.{Cells, Contents}
use Rattle.wb_cells.specs.WellFormed.{IsWellFormed}
use Rattle.wb_text.specs.declared.said.ObjectLine.{ObjectLine}
use Rattle.wb_text.specs.Said.{line_of, said}

-- what is made of the lines of a well-formed workbook is that workbook
abbrev pub ComesBack : List ObjectLine → Option Contents → Type 0
ComesBack lines r = (w : Cells) → IsWellFormed w → said w ≡ map line_of lines → option_map (λ (b : Contents). b.cells) r ≡ Some w
