-- A history made again from the list of its edits, each with its mark.
use Rattle.std.specs.Prelude.{◌≡◌, ℕ, zero, suc, ◌+◌, Bool, List, [], ◌∷◌, ◌++◌, map, Option, Some, None, Result, Ok, Err, slice_get, ⊤}
use Rattle.selective_undo.specs.Edit.{Trace, written}
use Rattle.selective_undo.specs.History.{traces, IsLegal}
use Rattle.wb_cells.specs.Cells.{count_of, saturating_add}
use Rattle.wb_edit.specs.declared.edit.Edit as command
use Rattle.wb_cells.specs.Schema.{workbook}
use Rattle.wb_history.specs.declared.restore.RestoreErr.{RestoreErr}
use Rattle.wb_history.specs.declared.restore.RestoreErr.TheVariants.{NotLegal, NoMemory}
use Rattle.wb_edit.specs.declared.refusal.Refusal.{Refusal}
use Rattle.wb_edit.specs.declared.refusal.Refusal.TheVariants as refusals
use Rattle.wb_log.specs.Past.{Numbered, Past, pair_back, meant}

-- why an edit in force is not put in
abbrev pub stopped : Refusal → RestoreErr
stopped refusals.NoMemory = NoMemory
stopped _ = NotLegal

-- an edit with its mark
abbrev pub one_of : command.Edit → Bool → Numbered
one_of e b = record { edit = e; in_force = b }

-- the edits of a list, each with its mark
abbrev pub marked : List (command.Edit × Bool) → List Numbered
marked xs = map pair_back xs

-- the edit of a number, from 1; none has any other number
abbrev pub numbered_at : List Numbered → ℕ → Option Numbered
numbered_at es zero = None
numbered_at es (suc k) = slice_get es k

-- how many cells the edits in force write, each in its place
abbrev pub cells_written : List (Option (Trace workbook)) → ℕ
cells_written [] = 0
cells_written (Some t ∷ ts) = count_of (written t.outcome) + cells_written ts
cells_written (None ∷ ts) = cells_written ts

-- the count of a history is that of its edits in force, each made once
abbrev pub IsCounted : Past → Type 0
IsCounted p = p.writes ≡ saturating_add 0 (cells_written (traces (meant p.entries)))

-- no history of edits that begin so is legal
abbrev pub BeginsNone : List Numbered → Type 0
BeginsNone es = (fs : List Numbered) → IsLegal (meant (es ++ fs)) → ⊥

-- The history of the list, where each edit in force is accepted in its place, each made once; or the list has none. Memory
-- may run out.
abbrev pub RestoreReply : List Numbered → Result Past RestoreErr → Type 0
RestoreReply es (Ok p) = IsLegal (meant es) × (p.entries ≡ es) × IsCounted p
RestoreReply es (Err NotLegal) = IsLegal (meant es) → ⊥
RestoreReply es (Err NoMemory) = ⊤
