-- The text of a history that a session or a desk goes on from.
use Rattle.std.specs.Prelude.{◌≡◌, ◌⊎◌, ◌+◌, ℕ, Bool, List, [], ◌++◌, codes, length, Option, None, Some, option_map, Result, Ok, Err}
use Rattle.memchr.specs.Find.{FindsNeedle}
use Rattle.selective_undo.specs.History.{IsLegal}
use Rattle.wb_machine.specs.Encoding.Text.{history_text}
use Rattle.wb_history.specs.Past.{Past, meant}
use Rattle.wb_history.specs.Restored.{IsCounted}
use Rattle.wb_lines.specs.Session.{Serves}
use Rattle.wb_lines.specs.declared.machine.SessionEnd.{SessionEnd}
use Rattle.wb_machine.specs.Machine.{AnswersText}
use Rattle.wb_sessions.specs.Checking.{IsNoRecord, Says}
use Rattle.wb_statuses.specs.Statuses.{IsFault}
use Rattle.wb_sessions.specs.Running.{status_of}
use Rattle.wb_sessions.specs.declared.checking.Verdict.TheVariants.{Refused}
use Rattle.wb_sessions.specs.declared.put_back.PutBack.{PutBack}

-- the bytes that were put back, and then those of the reader, where they are known
abbrev pub left_in : {R : Type 0} → (R → Option (List ℕ)) → PutBack R → Option (List ℕ)
left_in left s = option_map (λ t. s.ahead.items ++ t) (left s.reader)

-- whether the latest read failed, and how many were made
abbrev pub failed_in : {R : Type 0} → PutBack R → Bool
failed_in s = s.has_failed

abbrev pub reads_in : {R : Type 0} → PutBack R → ℕ
reads_in s = s.read_count

-- the text of this history, each of whose edits in force was made once
pub record IsRecord (bytes : List ℕ) (p : Past) : Type 0 where
  pub legal : IsLegal (meant p.entries)
  pub same : bytes ≡ history_text p.entries
  pub counted : IsCounted p

-- the last line of the text of a history, with the line end before it
abbrev pub last_line : List ℕ
last_line = codes "\nend\n"

-- A text ends with its first line `end`.
pub record IsUpToEnd (text : List ℕ) : Type 0 where
  pub place : ℕ
  pub first : FindsNeedle text last_line 0 (Some place)
  pub last : length text ≡ place + 5

-- no line `end` stands behind another line
abbrev pub HasNoEnd : List ℕ → Type 0
HasNoEnd bytes = FindsNeedle bytes last_line 0 None

-- a session from a history ended with this status
pub record IsServed (opening : Past) (status : ℕ) (asked : List ℕ) (left : Option (List ℕ)) (text : List ℕ) : Type 0 where
  pub end : SessionEnd
  pub after : Past
  pub is_status : status ≡ status_of end
  pub serves : Serves AnswersText end opening asked left text after

-- The text of a history stood at the front, and the lines behind it were a session from that history.
pub record GoesOn (status : ℕ) (read : List ℕ) (left : Option (List ℕ)) (text : List ℕ) : Type 0 where
  pub opening : Past
  pub front : List ℕ
  pub asked : List ℕ
  pub parts : read ≡ front ++ asked
  pub ends : IsUpToEnd front
  pub is_record : IsRecord front opening
  pub serves : IsServed opening status asked left text

-- There is no line `end`, or what stands up to the first one is the text of no history.
abbrev pub NoOpening : List ℕ → Type 0
NoOpening read = HasNoEnd read ⊎ ((front behind : List ℕ) × (read ≡ front ++ behind) × IsUpToEnd front × IsNoRecord front)

-- a session from the history at the front; or it was refused, which was printed; or there was a fault, and nothing was
abbrev pub IsResumed : ℕ → (read : List ℕ) → (left : Option (List ℕ)) → List ℕ → Type 0
IsResumed status read left text = GoesOn status read left text ⊎ ((NoOpening read × Says Refused status text) ⊎ (IsFault status × (text ≡ [])))

-- the history whose text was read; or it was refused, which was printed; or there was a fault, and nothing was
abbrev pub IsOpening : Result Past ℕ → List ℕ → List ℕ → Type 0
IsOpening (Ok p) read text = IsRecord read p × (text ≡ [])
IsOpening (Err status) read text = (IsNoRecord read × Says Refused status text) ⊎ (IsFault status × (text ≡ []))
