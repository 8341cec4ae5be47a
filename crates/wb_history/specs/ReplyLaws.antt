-- What holds of the answers to edits, undos and redos (`Replies`, `Cascades`): at most one kind of answer fits a history and a request,
-- so that each refusal comes exactly when its cause is there; and undo and redo are inverse.
use Rattle.std.specs.Prelude.{◌≡◌, ◌≢◌, ℕ, ◌-◌, List, Result, Ok, Err}
use Rattle.selective_undo.specs.Edit.{EditTree}
use Rattle.selective_undo.specs.History as h
use Rattle.selective_undo.specs.History.{IsLegal}
use Rattle.wb_cells.specs.Schema.{workbook}
use Rattle.wb_log.specs.Cascades.{DependentsReply, OfNumber}
use Rattle.wb_log.specs.Past.{Numbered, meant, out_of_force, into_force}
use Rattle.wb_log.specs.Replies.{EditReply, UndoReply, LastReply, RedoReply, ByNumber}
use Rattle.wb_edit.specs.declared.refusal.Refusal.{Refusal}
use Rattle.wb_edit.specs.declared.refusal.Refusal.TheVariants.{NoMemory}

-- Two answers that both fit are equal, where neither is want of memory.
abbrev pub OneAnswer : {X : Type 0} → (Result X Refusal → Type 0) → Type 0
OneAnswer {X} Fits = (r q : Result X Refusal) → Fits r → Fits q → r ≢ Err NoMemory → q ≢ Err NoMemory → r ≡ q

abbrev pub EditAnswerLaw : Type 0
EditAnswerLaw = (es : List (h.Entry workbook)) (e : EditTree workbook) → OneAnswer (EditReply es e)

abbrev pub UndoAnswerLaw : Type 0
UndoAnswerLaw = (es : List (h.Entry workbook)) (number : ℕ) → OneAnswer (ByNumber (UndoReply es) number)

abbrev pub LastAnswerLaw : Type 0
LastAnswerLaw = (es : List (h.Entry workbook)) → OneAnswer (LastReply es)

abbrev pub RedoAnswerLaw : Type 0
RedoAnswerLaw = (es : List (h.Entry workbook)) (number : ℕ) → OneAnswer (ByNumber (RedoReply es) number)

abbrev pub DependentsAnswerLaw : Type 0
DependentsAnswerLaw = (es : List (h.Entry workbook)) (number : ℕ) → OneAnswer (OfNumber (DependentsReply es) number)

-- ---- one directly after the other

-- The undo of an edit directly after its redo is refused for want of memory alone. It sets back as many cells as the redo
-- set, and gives back the edits.
abbrev pub UndoAfterRedoAnswerLaw : Type 0
UndoAfterRedoAnswerLaw =
    (es : List Numbered) (number n : ℕ) (r : Result ℕ Refusal)
    → IsLegal (meant es)
    → ByNumber (RedoReply (meant es)) number (Ok n)
    → ByNumber (UndoReply (meant (into_force (number - 1) es))) number r
    → (r ≢ Err NoMemory → r ≡ Ok n) × (out_of_force (number - 1) (into_force (number - 1) es) ≡ es)

-- So is the redo directly after the undo of the latest edit in force. It sets as many cells as the undo set back, and
-- gives back the edits.
abbrev pub RedoAfterLastAnswerLaw : Type 0
RedoAfterLastAnswerLaw =
    (es : List Numbered) (number n : ℕ) (r : Result ℕ Refusal)
    → IsLegal (meant es)
    → LastReply (meant es) (Ok (number, n))
    → ByNumber (RedoReply (meant (out_of_force (number - 1) es))) number r
    → (r ≢ Err NoMemory → r ≡ Ok n) × (into_force (number - 1) (out_of_force (number - 1) es) ≡ es)

-- Where the redo of any edit is granted directly after its undo, it sets as many cells as the undo set back, and gives
-- back the edits.
abbrev pub RedoBackAnswerLaw : Type 0
RedoBackAnswerLaw =
    (es : List Numbered) (number n m : ℕ)
    → IsLegal (meant es)
    → ByNumber (UndoReply (meant es)) number (Ok n)
    → ByNumber (RedoReply (meant (out_of_force (number - 1) es))) number (Ok m)
    → (m ≡ n) × (into_force (number - 1) (out_of_force (number - 1) es) ≡ es)
