-- The text of a workbook, made the text of a history of one edit: the load of that text.
use Rattle.std.specs.Prelude.{◌≡◌, ◌⊎◌, ℕ, true, List, [], ◌∷◌, ◌++◌, Option, codes}
use Rattle.std.specs.Io.KnownBytes.{Appends}
use Rattle.std.specs.Str.{IsUtf8}
use Rattle.selective_undo.specs.History.{replay}
use Rattle.wb_cells.specs.Cells.{Cells}
use Rattle.wb_cells.specs.WellFormed.{IsWellFormed}
use Rattle.wb_edit.specs.declared.edit.Edit.TheVariants.{Load}
use Rattle.wb_history.specs.Past.{Numbered, meant}
use Rattle.wb_history.specs.Restored.{one_of}
use Rattle.wb_kept.specs.Sessions.{IsFront}
use Rattle.wb_reading.specs.Reading.{IsNoBook}
use Rattle.wb_machine.specs.Histories.Text.{history_text, IsHistory}
use Rattle.wb_text.specs.Lines.{book_text}
use Rattle.wb_sessions.specs.Checking.{Says}
use Rattle.wb_statuses.specs.Statuses.{IsFault, IsPrinted}
use Rattle.wb_sessions.specs.declared.checking.Verdict.TheVariants.{Refused}

-- the history that has one edit, the load of this text, in force
abbrev pub loaded : List ℕ → List Numbered
loaded text = one_of (Load text) true ∷ []

-- The text is that of a workbook, and the history of its load is one that is read from its own text, with that workbook.
pub record IsUpgraded (text : List ℕ) : Type 0 where
  pub workbook : Cells
  pub well_formed : IsWellFormed workbook
  pub spelled : text ≡ book_text workbook
  pub is_history : IsHistory (loaded text)
  pub same_workbook : replay (meant (loaded text)) ≡ workbook

-- the text of that history was printed, or a front of it at a fault
abbrev pub Prints : List ℕ → ℕ → List ℕ → Type 0
Prints read status text = IsPrinted (history_text (loaded read)) status text

-- no UTF-8, or the text of no workbook
abbrev pub HasNoBook : List ℕ → Type 0
HasNoBook bytes = ¬ IsUtf8 bytes ⊎ IsNoBook bytes

-- a workbook's text became that of a history, which was printed; or it was no workbook's, and was refused, which was printed;
-- or there was a fault, and nothing was
abbrev pub Upgrades : List ℕ → ℕ → List ℕ → Type 0
Upgrades read status text = (IsUpgraded read × Prints read status text) ⊎ ((HasNoBook read × Says Refused status text) ⊎ (IsFault status × (text ≡ [])))

-- ---- for private clauses

-- the text of a history of one edit, by the lines of its workbook's objects and the line of the edit
abbrev pub text_by_lines : List ℕ → List ℕ → List ℕ
text_by_lines objects line = codes "chapel-workbook 2\n" ++ (objects ++ (codes "history 1\n" ++ (line ++ codes "end\n")))

-- a front of the bytes was appended
abbrev pub AppendsFront : Option (List ℕ) → Option (List ℕ) → List ℕ → Type 0
AppendsFront old new bytes = (front : List ℕ) × Appends old new front × IsFront front bytes

-- a workbook's text became that of a history, which was printed; or there was a fault, and nothing was
abbrev pub UpgradesBook : List ℕ → ℕ → List ℕ → Type 0
UpgradesBook read status text = (IsUpgraded read × Prints read status text) ⊎ (IsFault status × (text ≡ []))
