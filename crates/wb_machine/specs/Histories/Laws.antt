-- What the text of a history tells of it.
use Rattle.std.specs.Prelude.{◌≡◌, ℕ, List}
use Rattle.wb_history.specs.Past.{Numbered, Past}
use Rattle.wb_machine.specs.Machine.{AnswersText}
use Rattle.wb_machine.specs.Histories.Text.{history_text, AreAsked, IsHistory}

-- Two histories with one text are the same history.
abbrev pub OneTextOneHistory : Type 0
OneTextOneHistory = (es fs : List Numbered) → IsHistory es → IsHistory fs → history_text es ≡ history_text fs → es ≡ fs

-- A history whose edits were asked for by lines is, after one more line, such a history.
abbrev pub KeepsAsked : Type 0
KeepsAsked = (p q : Past) (line text : List ℕ) → AnswersText p line text q → AreAsked p.entries → AreAsked q.entries
