-- Each workbook is found in its text.
use Rattle.std.proofs.Common.{◌≡◌, ℕ, true, List, Some, unwrap_or, refl, sym, ap, ◌∙◌}
use Rattle.std.proofs.lemmas.Slice.Eq.{bytes_eq-Decides}
use Rattle.std.specs.FinMap.{empty}
use Rattle.wb_cells.specs.Cells.{Cells}
use Rattle.wb_cells.specs.WellFormed.{IsWellFormed}
use Rattle.wb_text.specs.Parsed.Lines.{ReadsLines}
use Rattle.wb_text.proofs.Parsed.Book as lines
use Rattle.wb_text.proofs.FromLines.ComingBack.{comes_back}
use Rattle.wb_text.proofs.FromLines.SoundSaid.{sound_said, distinct_said}
use Rattle.wb_text.specs.Lines.{book_text}
use Rattle.wb_text.specs.Said.{Line, said}
use Rattle.wb_text.specs.FromLines.Told.{are_sound, cells_told}
use Rattle.wb_text.specs.Texts.Books.{IsBookText, book_in, cells_in}

pub told_back : (w : Cells) → IsWellFormed w → cells_told (said w) ≡ w
told_back w well = comes_back (said w) (cells_told (said w)) w (distinct_said w) refl well refl

pub sound_back : (w : Cells) → IsWellFormed w → are_sound (said w) ≡ true
sound_back w well = rw (distinct_said w, sound_said w well) refl

pub book_back : (w : Cells) → IsWellFormed w → book_in (book_text w) ≡ Some w
book_back w well =
    rw (lines.book_back w well, sound_back w well, told_back w well, (bytes_eq-Decides (book_text w) (book_text w)).1 refl) refl

-- the cells that the text of a workbook tells of are the workbook's
pub cells_back : (text : List ℕ) (h : IsBookText text) → cells_in text ≡ h.workbook
cells_back text h = ap cells_in h.spelled ∙ ap (λ o. unwrap_or o empty) (book_back h.workbook h.well_formed)

some_same : {X : Type 0} (x y : X) → Some x ≡ Some y → x ≡ y
some_same x y e = cc

-- the lines that are read of it are what the workbook says
lines_back : (text : List ℕ) (h : IsBookText text) (ls : List Line) → ReadsLines text (Some ls) → ls ≡ said h.workbook
lines_back text h ls reads = some_same ls (said h.workbook) (reads h.workbook h.well_formed h.spelled)

pub sound_read : (text : List ℕ) (h : IsBookText text) (ls : List Line) → ReadsLines text (Some ls) → are_sound ls ≡ true
sound_read text h ls reads = ap are_sound (lines_back text h ls reads) ∙ sound_back h.workbook h.well_formed

pub cells_read : (text : List ℕ) (h : IsBookText text) (ls : List Line) → ReadsLines text (Some ls) → cells_told ls ≡ cells_in text
cells_read text h ls reads = ap cells_told (lines_back text h ls reads) ∙ told_back h.workbook h.well_formed ∙ sym (cells_back text h)
