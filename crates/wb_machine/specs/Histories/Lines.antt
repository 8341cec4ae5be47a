-- The lines of a history's text, from the last one up.
use Rattle.std.specs.Prelude.{◌≡◌, ℕ, Bool, true, false, List, ◌∷◌, ◌++◌, length, codes, decimal, Option, Some, None, option_map}
use Rattle.std.specs.List.{flat_map}
use Rattle.std.specs.Option.{option_map_or}
use Rattle.selective_undo.specs.History.{replay}
use Rattle.wb_history.specs.Past.{Numbered, meant}
use Rattle.wb_lines.specs.Lines.{IsUnbroken}
use Rattle.wb_literals.specs.Tokens.{after}
use Rattle.wb_machine.specs.Histories.Text.{said, objects_text, history_text, AreSaid}

-- what comes before the last line end, and the line after it
abbrev pub IsLastLine : List ℕ → Option (List ℕ × List ℕ) → Type 0
IsLastLine bytes (Some (before, line)) = (bytes ≡ before ++ 10 ∷ line) × IsUnbroken line
IsLastLine bytes None = IsUnbroken bytes

-- the mark of a line, and what follows it; other lines have none
abbrev pub marked_at : List ℕ → Option (Bool × List ℕ)
marked_at line = option_map_or (λ rest. Some (true, rest)) (after (codes "+ ") line) (option_map (λ rest. (false, rest)) (after (codes "- ") line))

-- what the text of a history has above its edits, without the line end
abbrev pub heading : List Numbered → List ℕ
heading es = codes "chapel-workbook 2\n" ++ (objects_text (replay (meant es)) ++ (codes "history " ++ decimal (length es)))

-- the lines of edits, each behind a line end
abbrev pub below : List Numbered → List ℕ
below es = flat_map (λ x. 10 ∷ said x) es

-- The edits of the text of a history are read; of other texts nothing is said.
abbrev pub ReadsEdits : List ℕ → Option (List Numbered) → Type 0
ReadsEdits bytes read = (es : List Numbered) → AreSaid es → bytes ≡ heading es ++ below es → read ≡ Some es

-- The whole text of a history is read as its edits; of other texts nothing is said.
abbrev pub ReadsHistory : List ℕ → Option (List Numbered) → Type 0
ReadsHistory text read = (es : List Numbered) → AreSaid es → text ≡ history_text es → read ≡ Some es
