-- The count of a reply is the size of a set of cells: of those that the edit touched.
use Rattle.std.specs.Prelude.{◌≡◌, ℕ, suc, Bool, ◌&&◌, List, [], ◌∷◌, Some, Ok, slice_get, ⊤}
use Rattle.selective_undo.specs.Edit.{EditTree, Trace, trace, writes}
use Rattle.selective_undo.specs.History.{undone, traces, replay, InForce}
use Rattle.wb_cells.specs.declared.cells.cell.Cell.{Cell}
use Rattle.wb_cells.specs.Cells.{is_counted}
use Rattle.wb_edit.specs.declared.edit.Edit as command
use Rattle.wb_edit.specs.Edits.{meaning}
use Rattle.wb_cells.specs.Schema.{workbook}
use Rattle.wb_edit.specs.Edits.{IsValid, ListsOnce}
use Rattle.wb_log.specs.Past.{Numbered, meant, AreValid}
use Rattle.wb_log.specs.Replies.{EditReply, UndoReply, LastReply, RedoReply, ByNumber}
use Rattle.wb_laws.specs.Sizes.{HasSize}

-- a cell that an edit touched, where it did this; the cells `In` aside, which follow from the ranges
abbrev pub touched : Trace workbook → Cell → Bool
touched t c = writes t c && is_counted c

-- each edit lists the indices that it carries once; every value of the type `Edit` does
abbrev pub ListOnce : List Numbered → Type 0
ListOnce [] = ⊤
ListOnce (x ∷ es) = ListsOnce x.edit × ListOnce es

-- The count of an edit is how many cells it touches in the workbook as it is.
abbrev pub EditCountLaw : Type 0
EditCountLaw =
    (es : List Numbered) (e : command.Edit) (number n : ℕ)
    → AreValid es → IsValid e → ListsOnce e
    → EditReply (meant es) (meaning e) (Ok (number, n))
    → HasSize (touched (trace (meaning e) (replay (meant es)))) n

-- The count of an undo of edit k, from 0, is how many cells the edit touched.
abbrev pub UndoCountLaw : Type 0
UndoCountLaw =
    (es : List Numbered) (k n : ℕ) (t : Trace workbook)
    → AreValid es → ListOnce es
    → ByNumber (UndoReply (meant es)) (suc k) (Ok n)
    → InForce (traces (meant es)) k t
    → HasSize (touched t) n

-- So is that of an undo of the latest, where this is edit k.
abbrev pub LastCountLaw : Type 0
LastCountLaw =
    (es : List Numbered) (k n : ℕ) (t : Trace workbook)
    → AreValid es → ListOnce es
    → LastReply (meant es) (Ok (suc k, n))
    → InForce (traces (meant es)) k t
    → HasSize (touched t) n

-- The count of a redo of edit k is how many cells the edit touches now.
abbrev pub RedoCountLaw : Type 0
RedoCountLaw =
    (es : List Numbered) (k n : ℕ) (e : EditTree workbook)
    → AreValid es → ListOnce es
    → ByNumber (RedoReply (meant es)) (suc k) (Ok n)
    → slice_get (meant es) k ≡ Some (undone e)
    → HasSize (touched (trace e (replay (meant es)))) n
