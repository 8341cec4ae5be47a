-- What the text of a workbook tells of it.
use Rattle.std.specs.Prelude.{◌≡◌}
use Rattle.wb_cells.specs.Cells.{Cells}
use Rattle.wb_cells.specs.WellFormed.{IsWellFormed}
use Rattle.wb_text.specs.Lines.{book_text}

-- Two well-formed workbooks with one text are the same workbook.
abbrev pub OneTextOneWorkbook : Type 0
OneTextOneWorkbook = (s t : Cells) → IsWellFormed s → IsWellFormed t → book_text s ≡ book_text t → s ≡ t
