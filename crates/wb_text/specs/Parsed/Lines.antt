-- What the lines of a text say, read from its front.
use Rattle.std.specs.Prelude.{◌≡◌, ℕ, zero, suc, List, [], ◌∷◌, length, codes, bytes_eq, Bool, Option, Some, None, option_map, option_and_then, if◌then◌else◌}
use Rattle.std.specs.Option.{option_map_or}
use Rattle.wb_cells.specs.Cells.{Cells}
use Rattle.wb_cells.specs.WellFormed.{IsWellFormed}
use Rattle.wb_literals.specs.Tokens.{after}
use Rattle.wb_text.specs.Lines.{book_text}
use Rattle.wb_text.specs.Said.{Line, rectangular, sparse, associative, array, said}
use Rattle.wb_text.specs.Parsed.Parts.{◌>>=◌, name_at, names_at, typed_at, ranges_at, layout_at, members_at, elements_at, implicit_at}

-- ---- the four kinds of lines, each behind its first word

-- a rectangular domain: its name, its ranges and its mapping
abbrev pub rectangular_at : List ℕ → Option (Line × List ℕ)
rectangular_at bytes = do
  name ← name_at bytes
  ranges ← ranges_at name.1
  layout ← layout_at ranges.1
  rest ← after (codes "\n") layout.1
  Some (rectangular name.0 ranges.0 layout.0, rest)

-- a sparse domain: its name, its parent and its indices
abbrev pub sparse_at : List ℕ → Option (Line × List ℕ)
sparse_at bytes = do
  names ← names_at (codes " of ") bytes
  indices ← members_at names.2
  Some (sparse names.0 names.1 indices.0, indices.1)

-- an associative domain: its name, its type and its indices
abbrev pub associative_at : List ℕ → Option (Line × List ℕ)
associative_at bytes = do
  typed ← typed_at bytes
  indices ← members_at typed.2
  Some (associative typed.0 typed.1 indices.0, indices.1)

-- an array: its name, its domain, its elements and its implicit value, where one is written
abbrev pub array_at : List ℕ → Option (Line × List ℕ)
array_at bytes = do
  names ← names_at (codes " over ") bytes
  elements ← elements_at names.2
  implicit ← implicit_at elements.1
  Some (array names.0 names.1 elements.0 implicit.0, implicit.1)

-- ---- lines

-- the line at the front, by its first word
abbrev pub line_at : List ℕ → Option (Line × List ℕ)
line_at bytes = option_map_or rectangular_at (after (codes "rect ") bytes)
    (option_map_or sparse_at (after (codes "sparse ") bytes)
    (option_map_or associative_at (after (codes "assoc ") bytes)
    (option_and_then array_at (after (codes "array ") bytes))))

-- the last line is all that is left
abbrev pub is_end : List ℕ → Bool
is_end bytes = bytes_eq bytes (codes "end\n")

-- fewer than n lines, and the last one
abbrev pub lines_at : ℕ → List ℕ → Option (List Line)
lines_at zero bytes = None
lines_at (suc n) bytes = if is_end bytes then Some [] else option_and_then (λ line. option_map (λ lines. line.0 ∷ lines) (lines_at n line.1)) (line_at bytes)

-- all lines; a text has no more lines than bytes
abbrev pub lines_of : List ℕ → Option (List Line)
lines_of bytes = lines_at (length bytes) bytes

-- the lines behind the first one
abbrev pub book_of : List ℕ → Option (List Line)
book_of text = option_and_then lines_of (after (codes "chapel-workbook 1\n") text)

-- ---- what is promised

-- the lines of each well-formed workbook's text are read; of other texts nothing is said
abbrev pub ReadsLines : List ℕ → Option (List Line) → Type 0
ReadsLines text read = (w : Cells) → IsWellFormed w → text ≡ book_text w → read ≡ Some (said w)
