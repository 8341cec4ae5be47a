-- The workbook whose text a text is.
use Rattle.std.specs.Prelude.{◌≡◌, ℕ, Bool, bytes_eq, List, Option, Some, None, is_some, unwrap_or, option_and_then, if◌then◌else◌}
use Rattle.std.specs.FinMap.{empty}
use Rattle.wb_cells.specs.Cells.{Cells}
use Rattle.wb_cells.specs.WellFormed.{IsWellFormed}
use Rattle.wb_text.specs.Parsed.Lines.{book_of}
use Rattle.wb_text.specs.FromLines.Told.{are_sound, cells_told}
use Rattle.wb_text.specs.Lines.{book_text}
use Rattle.wb_text.specs.Said.{Line}

-- some well-formed workbook has the text; by the law of texts no two have it
pub record IsBookText (text : List ℕ) : Type 0 where
  pub workbook : Cells
  pub well_formed : IsWellFormed workbook
  pub spelled : text ≡ book_text workbook

-- a workbook, if the text is its text
abbrev pub if_text_of : List ℕ → Cells → Option Cells
if_text_of text w = if bytes_eq text (book_text w) then Some w else None

-- the workbook that lines tell of, if the text is its text
abbrev pub told_by : List ℕ → List Line → Option Cells
told_by text ls = if are_sound ls then if_text_of text (cells_told ls) else None

-- the workbook of a text, if it is one's: the text is read line by line, and the text of what it tells of has to be the same
abbrev pub book_in : List ℕ → Option Cells
book_in text = option_and_then (told_by text) (book_of text)

-- whether it is one's
abbrev pub is_book_text : List ℕ → Bool
is_book_text text = is_some (book_in text)

-- its cells; none where it is no workbook's text
abbrev pub cells_in : List ℕ → Cells
cells_in text = unwrap_or (book_in text) empty
