-- Texts that are the text of no workbook, and the workbook of lines.
use Rattle.std.specs.Prelude.{◌≢◌, ℕ, List, Option, Some, None, if◌then◌else◌}
use Rattle.wb_cells.specs.Cells.{Cells}
use Rattle.wb_cells.specs.WellFormed.{IsWellFormed}
use Rattle.wb_text.specs.FromLines.Told.{are_sound, cells_told}
use Rattle.wb_text.specs.Lines.{book_text}
use Rattle.wb_text.specs.Said.{Line}

-- no well-formed workbook has this text
abbrev pub IsNoBook : List ℕ → Type 0
IsNoBook text = (w : Cells) → IsWellFormed w → text ≢ book_text w

-- the cells that lines tell of, if they are sound
abbrev pub sound_cells : List Line → Option Cells
sound_cells ls = if are_sound ls then Some (cells_told ls) else None
