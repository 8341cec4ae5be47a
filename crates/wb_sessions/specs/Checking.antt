-- Whether bytes are the text of a workbook or of a history, or a journal, what is printed of it, and the exit status.
use Rattle.std.specs.Prelude.{◌≡◌, ◌⊎◌, ◌≤◌, ℕ, List, [], ◌++◌, codes, decimal, length, take, IsTrue}
use Rattle.std.specs.Str.{IsUtf8}
use Rattle.selective_undo.specs.History.{replay, IsLegal}
use Rattle.wb_cells.specs.Cells.{Cells}
use Rattle.wb_cells.specs.Readers.{objects}
use Rattle.wb_cells.specs.WellFormed.{IsWellFormed}
use Rattle.wb_keep.specs.Lines.{is_ours, recovered}
use Rattle.wb_kept.specs.Runs.{Leads}
use Rattle.wb_keeping.specs.Granting.Granting.{Grants, no_edit}
use Rattle.wb_machine.specs.Encoding.Text.{history_text}
use Rattle.wb_history.specs.Past.{Numbered, Past, meant}
use Rattle.wb_reading.specs.Reading.{IsNoBook}
use Rattle.wb_machine.specs.Histories.Text.{IsNoHistory}
use Rattle.wb_text.specs.Lines.{book_text}
use Rattle.wb_statuses.specs.Statuses.{IsFault}
use Rattle.wb_sessions.specs.declared.checking.Verdict.{Verdict}
use Rattle.wb_sessions.specs.declared.checking.Verdict.TheVariants.{Workbook, History, Journal, Refused}

-- the text of a well-formed workbook with so many objects
pub record IsTextOf (bytes : List ℕ) (count : ℕ) : Type 0 where
  pub cells : Cells
  pub well_formed : IsWellFormed cells
  pub same : bytes ≡ book_text cells
  pub counted : count ≡ length (objects cells)

-- the text of a legal history of so many edits, whose workbook has so many objects
pub record IsTextOfHistory (bytes : List ℕ) (count edits : ℕ) : Type 0 where
  pub entries : List Numbered
  pub legal : IsLegal (meant entries)
  pub same : bytes ≡ history_text entries
  pub counted : count ≡ length (objects (replay (meant entries)))
  pub numbered : edits ≡ length entries

-- the text of no history, or no UTF-8 at all
abbrev pub IsNoRecord : List ℕ → Type 0
IsNoRecord bytes = ¬ IsUtf8 bytes ⊎ IsNoHistory bytes

-- the bytes begin with the header of a journal
abbrev pub IsHeaded : List ℕ → Type 0
IsHeaded bytes = IsTrue (is_ours bytes) × (18 ≤ length bytes)

-- a journal of a history of so many edits, whose workbook has so many objects: its lines are granted, one after the other, and lead there
pub record IsJournalOf (bytes : List ℕ) (count edits : ℕ) : Type 0 where
  pub past : Past
  pub headed : IsHeaded bytes
  pub leads : Leads Grants no_edit (recovered bytes) past
  pub counted : count ≡ length (objects (replay (meant past.entries)))
  pub numbered : edits ≡ length past.entries

-- there is no header, or a line is not granted
abbrev pub IsNoJournal : List ℕ → Type 0
IsNoJournal bytes = IsHeaded bytes → (p : Past) → Leads Grants no_edit (recovered bytes) p → ⊥

-- no UTF-8, or the text of no workbook and of no history
abbrev pub IsNoText : List ℕ → Type 0
IsNoText bytes = ¬ IsUtf8 bytes ⊎ (IsNoBook bytes × IsNoHistory bytes)

-- as a text, the bytes are that of a workbook, or of a history, or of neither
abbrev pub IsTextVerdict : List ℕ → Verdict → Type 0
IsTextVerdict bytes (Workbook count) = IsTextOf bytes count
IsTextVerdict bytes (History count edits) = IsTextOfHistory bytes count edits
IsTextVerdict bytes (Journal count edits) = ⊥
IsTextVerdict bytes Refused = IsNoText bytes

-- the bytes are the text of a workbook, or of a history, or a journal; or they are none of these
abbrev pub IsVerdict : List ℕ → Verdict → Type 0
IsVerdict bytes (Workbook count) = IsTextOf bytes count
IsVerdict bytes (History count edits) = IsTextOfHistory bytes count edits
IsVerdict bytes (Journal count edits) = IsJournalOf bytes count edits
IsVerdict bytes Refused = IsNoText bytes × IsNoJournal bytes

-- what is printed
abbrev pub verdict_text : Verdict → List ℕ
verdict_text (Workbook count) = codes "ok " ++ (decimal count ++ codes "\n")
verdict_text (History count edits) = codes "ok " ++ (decimal count ++ (codes " " ++ (decimal edits ++ codes "\n")))
verdict_text (Journal count edits) = codes "ok " ++ (decimal count ++ (codes " " ++ (decimal edits ++ codes "\n")))
verdict_text Refused = codes "refused\n"

-- 0 for a workbook, a history or a journal, 1 where there is none
abbrev pub status_of_verdict : Verdict → ℕ
status_of_verdict (Workbook count) = 0
status_of_verdict (History count edits) = 0
status_of_verdict (Journal count edits) = 0
status_of_verdict Refused = 1

-- a verdict was printed, with its status; or a front of it, at a fault
abbrev pub Says : Verdict → ℕ → List ℕ → Type 0
Says verdict status text = ((status ≡ status_of_verdict verdict) × (text ≡ verdict_text verdict))
    ⊎ (IsFault status × ((count : ℕ) × (text ≡ take count (verdict_text verdict))))

-- the verdict on the bytes was printed, or a front of it at a fault; a fault before it printed nothing
abbrev pub Judges : List ℕ → ℕ → List ℕ → Type 0
Judges read status text = ((verdict : Verdict) × IsVerdict read verdict × Says verdict status text) ⊎ (IsFault status × (text ≡ []))

-- all of the input was judged
abbrev pub IsAnswered : ℕ → Type 0
IsAnswered status = (status ≡ 0) ⊎ (status ≡ 1)
