-- The machine of requests and replies over a history: what is replied to a request, and what the history is next. A refusal,
-- a query, a list of dependents, what is told of a line, and a print, of the workbook or of the history, leave it as it was.
use Rattle.std.specs.Prelude.{◌≡◌, ◌-◌, ◌⊎◌, ℕ, List, [], ◌∷◌, ◌++◌, true, Some, None, Result, Ok, Err, length}
use Rattle.selective_undo.specs.History.{replay}
use Rattle.wb_cells.specs.Cells.{saturating_add}
use Rattle.wb_edit.specs.Edits.{meaning}
use Rattle.wb_edit.specs.declared.edit.Edit.{Edit}
use Rattle.wb_history.specs.Past.{Past, meant, out_of_force, into_force}
use Rattle.wb_history.specs.Queries.{QueryReply}
use Rattle.wb_history.specs.Replies.{EditReply, UndoReply, LastReply, RedoReply, ByNumber}
use Rattle.wb_history.specs.Cascades.{DependentsReply, CascadeReply, OfNumber, all_out_of_force, places, set_back}
use Rattle.wb_edit.specs.declared.query.Query.{Query}
use Rattle.wb_edit.specs.declared.refusal.Refusal.{Refusal}
use Rattle.wb_edit.specs.declared.refusal.Refusal.TheVariants.{NoMemory}
use Rattle.wb_text.specs.Lines.{book_text}
use Rattle.wb_requests.specs.Explained.{explained}
use Rattle.wb_requests.specs.Requests.{request}
use Rattle.wb_requests.specs.declared.requests.request.Request.{Request}
use Rattle.wb_requests.specs.declared.requests.request.Request.TheVariants.{Change, Undo, Redo, Cascade, Dependents, Ask, Print, History, Edits, Explain}
use Rattle.wb_machine.specs.Encoding.Text.{history_text, lines_from}
use Rattle.wb_machine.specs.Replies.{reply_of}
use Rattle.wb_machine.specs.declared.replies.reply.Reply.{Reply}
use Rattle.wb_machine.specs.declared.replies.reply.Reply.TheVariants.{Edited, Undone, Cascaded, Redone, Listed, Answered, Printed, PrintedFrom, Counted, Explained, Refused}

-- An edit comes last, in force; n cells were set.
pub record Appends (e : Edit) (n : ℕ) (old new : Past) : Type 0 where
  pub entries : new.entries ≡ old.entries ++ record { edit = e; in_force = true } ∷ []
  pub writes : new.writes ≡ saturating_add old.writes n

-- Edit k, from 1, goes out of force; n cells were set back.
pub record TakesOut (k n : ℕ) (old new : Past) : Type 0 where
  pub entries : new.entries ≡ out_of_force (k - 1) old.entries
  pub writes : new.writes ≡ saturating_add old.writes n

-- The edits of these numbers, from 1, go out of force, one after another; the cells of all are set back.
pub record TakesAllOut (ns : List ℕ) (old new : Past) : Type 0 where
  pub entries : new.entries ≡ all_out_of_force ns old.entries
  pub writes : new.writes ≡ saturating_add old.writes (set_back (meant old.entries) (places ns))

-- Edit k, from 1, comes into force in its own place; n cells were set.
pub record PutsIn (k n : ℕ) (old new : Past) : Type 0 where
  pub entries : new.entries ≡ into_force (k - 1) old.entries
  pub writes : new.writes ≡ saturating_add old.writes n

-- an edit: its number and how many cells it changes, or why it is refused
abbrev pub Changes : Past → Edit → Reply → Past → Type 0
Changes p e (Edited k n) q = EditReply (meant p.entries) (meaning e) (Ok (k, n)) × Appends e n p q
Changes p e (Refused why) q = EditReply (meant p.entries) (meaning e) (Err why) × (q ≡ p)
Changes p e _ q = ⊥

-- undo of the edit of a number: how many cells are set back, or why it is refused
abbrev pub UndoesNumber : Past → ℕ → Reply → Past → Type 0
UndoesNumber p k (Undone j n) q = (j ≡ k) × ByNumber (UndoReply (meant p.entries)) k (Ok n) × TakesOut k n p q
UndoesNumber p k (Refused why) q = ByNumber (UndoReply (meant p.entries)) k (Err why) × (q ≡ p)
UndoesNumber p k _ q = ⊥

-- undo of the latest edit in force: its number too
abbrev pub UndoesLatest : Past → Reply → Past → Type 0
UndoesLatest p (Undone k n) q = LastReply (meant p.entries) (Ok (k, n)) × TakesOut k n p q
UndoesLatest p (Refused why) q = LastReply (meant p.entries) (Err why) × (q ≡ p)
UndoesLatest p _ q = ⊥

-- Undo of the edit of a number with its dependents: their numbers, from the greatest down, and how many cells are set back,
-- or why it is refused. It is one step; where memory runs out after some of the undos, it is those.
abbrev pub Cascades : Past → ℕ → Reply → Past → Type 0
Cascades p k (Cascaded ns n) q = OfNumber (CascadeReply (meant p.entries)) k (Ok (ns, n)) × TakesAllOut ns p q
Cascades p k (Refused why) q = OfNumber (CascadeReply (meant p.entries)) k (Err why) × (q ≡ p)
Cascades p k _ q = ⊥

-- redo of the edit of a number: how many cells it changes now, or why it is refused
abbrev pub Redoes : Past → ℕ → Reply → Past → Type 0
Redoes p k (Redone j n) q = (j ≡ k) × ByNumber (RedoReply (meant p.entries)) k (Ok n) × PutsIn k n p q
Redoes p k (Refused why) q = ByNumber (RedoReply (meant p.entries)) k (Err why) × (q ≡ p)
Redoes p k _ q = ⊥

-- the dependents of the edit of a number, from the greatest down, or why there are none
abbrev pub ListsDependents : Past → ℕ → Reply → Past → Type 0
ListsDependents p k (Listed ns) q = OfNumber (DependentsReply (meant p.entries)) k (Ok ns) × (q ≡ p)
ListsDependents p k (Refused why) q = OfNumber (DependentsReply (meant p.entries)) k (Err why) × (q ≡ p)
ListsDependents p k _ q = ⊥

-- a query: what the workbook and the history say
abbrev pub Answers : Past → Query → Reply → Past → Type 0
Answers p asked (Answered a) q = QueryReply (replay (meant p.entries)) p.entries asked (Ok a) × (q ≡ p)
Answers p asked (Refused why) q = QueryReply (replay (meant p.entries)) p.entries asked (Err why) × (q ≡ p)
Answers p asked _ q = ⊥

-- a print: the text of the workbook that the edits in force make, unless memory ran out
abbrev pub Prints : Past → Reply → Past → Type 0
Prints p (Printed t) q = (t ≡ book_text (replay (meant p.entries))) × (q ≡ p)
Prints p (Refused why) q = (why ≡ NoMemory) × (q ≡ p)
Prints p _ q = ⊥

-- the text of the history, unless memory ran out
abbrev pub PrintsHistory : Past → Reply → Past → Type 0
PrintsHistory p (Printed t) q = (t ≡ history_text p.entries) × (q ≡ p)
PrintsHistory p (Refused why) q = (why ≡ NoMemory) × (q ≡ p)
PrintsHistory p _ q = ⊥

-- the lines of the edits from a number on, and how many edits there are, unless memory ran out
abbrev pub PrintsFrom : Past → ℕ → Reply → Past → Type 0
PrintsFrom p k (PrintedFrom n t) q = (n ≡ length p.entries) × (t ≡ lines_from k p.entries) × (q ≡ p)
PrintsFrom p k (Refused why) q = (why ≡ NoMemory) × (q ≡ p)
PrintsFrom p k _ q = ⊥

-- how many edits there are, in force or not, and how many cells were set
abbrev pub Counts : Past → Reply → Past → Type 0
Counts p (Counted n w) q = (n ≡ length p.entries) × (w ≡ p.writes) × (q ≡ p)
Counts p _ q = ⊥

-- what is wrong with a line, unless memory ran out: the history has nothing to do with it
abbrev pub Explains : Past → List ℕ → Reply → Past → Type 0
Explains p line (Explained wrong) q = (wrong ≡ explained line) × (q ≡ p)
Explains p line (Refused why) q = (why ≡ NoMemory) × (q ≡ p)
Explains p line _ q = ⊥

-- One step: from a history, by a request, to a reply and the next history.
abbrev pub Step : Past → Request → Reply → Past → Type 0
Step p (Change e) r q = Changes p e r q
Step p (Undo (Some k)) r q = UndoesNumber p k r q
Step p (Undo None) r q = UndoesLatest p r q
Step p (Redo k) r q = Redoes p k r q
Step p (Cascade k) r q = Cascades p k r q
Step p (Dependents k) r q = ListsDependents p k r q
Step p (Ask asked) r q = Answers p asked r q
Step p Print r q = Prints p r q
Step p (History None) r q = PrintsHistory p r q
Step p (History (Some k)) r q = PrintsFrom p k r q
Step p Edits r q = Counts p r q
Step p (Explain line) r q = Explains p line r q

-- What was read is answered by a step, or by why it is no request.
abbrev pub StepIfRead : Past → Result Request Refusal → Reply → Past → Type 0
StepIfRead p (Ok asked) r q = Step p asked r q
StepIfRead p (Err why) r q = (r ≡ Refused why) × (q ≡ p)

-- Memory ran out, and nothing changed. This may be the answer to any line.
abbrev pub NothingDone : Past → Reply → Past → Type 0
NothingDone p r q = (r ≡ Refused NoMemory) × (q ≡ p)

-- A line is answered with the text of a reply to its request.
pub record AnswersText (p : Past) (line text : List ℕ) (q : Past) : Type 0 where
  pub reply : Reply
  pub is_reply : StepIfRead p (request line) reply q ⊎ NothingDone p reply q
  pub is_text : text ≡ reply_of reply
