-- The workbook of a text, by the workbook that its lines tell of.
use Rattle.std.proofs.Common.{◌≡◌, ℕ, Bool, true, false, List, Option, Some, None, is_some, IfSome, Result, Ok, Err, IfOk, if◌then◌else◌, option_map, option_and_then, refl, ap}
use Rattle.wb_cells.specs.Cells.{Cells, Contents}
use Rattle.wb_text.specs.FromLines.Told.{are_sound, cells_told}
use Rattle.wb_text.specs.Parsed.Lines.{book_of}
use Rattle.wb_text.specs.Said.{Line}
use Rattle.wb_text.specs.Texts.Books.{if_text_of, told_by, book_in}
use Rattle.wb_reading.specs.Reading.{sound_cells}

-- what was rebuilt of lines
found_in : (ls : List Line) (r : Option Contents) → is_some r ≡ are_sound ls → IfSome r (λ b. b.cells ≡ cells_told ls)
    → option_map (λ (b : Contents). b.cells) r ≡ sound_cells ls
found_in ls None sound cells = rw (← sound) refl
found_in ls (Some b) sound cells = rw (← sound) (ap (λ w. Some w) cells)

-- the same of a result
pub found : {E : Type 0} (ls : List Line) (r : Result (Option Contents) E) → IfOk r (λ r. is_some r ≡ are_sound ls)
    → IfOk r (λ r. IfSome r (λ b. b.cells ≡ cells_told ls)) → IfOk r (λ r. option_map (λ (b : Contents). b.cells) r ≡ sound_cells ls)
found ls (Ok r) sound cells = found_in ls r sound cells
found ls (Err e) sound cells = tt

by_sound : (text : List ℕ) (b : Bool) (w : Cells) →
    (if b then if_text_of text w else None) ≡ option_and_then (if_text_of text) (if b then Some w else None)
by_sound text true w = refl
by_sound text false w = refl

in_lines : (text : List ℕ) (o : Option (List Line)) → option_and_then (told_by text) o ≡ option_and_then (if_text_of text) (option_and_then sound_cells o)
in_lines text None = refl
in_lines text (Some ls) = by_sound text (are_sound ls) (cells_told ls)

-- the workbook of a text is the one that its lines tell of, if the text is its text
pub in_text : (text : List ℕ) → book_in text ≡ option_and_then (if_text_of text) (option_and_then sound_cells (book_of text))
in_text text = in_lines text (book_of text)
