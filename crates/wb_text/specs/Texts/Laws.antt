-- What holds of the texts of workbooks.
use Rattle.std.specs.Prelude.{◌≡◌, Some}
use Rattle.wb_cells.specs.Cells.{Cells}
use Rattle.wb_cells.specs.WellFormed.{IsWellFormed}
use Rattle.wb_text.specs.Lines.{book_text}
use Rattle.wb_text.specs.Texts.Books.{book_in}

-- Each well-formed workbook is found in its text.
abbrev pub FoundInItsText : Type 0
FoundInItsText = (w : Cells) → IsWellFormed w → book_in (book_text w) ≡ Some w
