-- The lines of each workbook's text are read.
use Rattle.std.proofs.Common.{◌≡◌, Some, ap, ◌∙◌}
use Rattle.wb_cells.specs.Cells.{Cells}
use Rattle.wb_cells.specs.WellFormed.{IsWellFormed}
use Rattle.wb_text.specs.Lines.{book_text}
use Rattle.wb_text.specs.Said.{said}
use Rattle.wb_text.proofs.BookLines.{text_of_lines}
use Rattle.wb_text.proofs.BookWritten.{said_written}
use Rattle.wb_text.specs.Parsed.Lines.{book_of}
use Rattle.wb_text.proofs.Parsed.Back.Lines.{lines_back}
use Rattle.wb_text.proofs.Parsed.Meant.{said_meant}

pub book_back : (w : Cells) → IsWellFormed w → book_of (book_text w) ≡ Some (said w)
book_back w h = ap book_of (text_of_lines w) ∙ lines_back (said w) (said_written w h) (said_meant w h)
