-- Which lines are changes of a history, and which changes an answered line made.
use Rattle.std.specs.Prelude.{◌≡◌, ◌≢◌, ◌⊎◌, ℕ, true, List, [], ◌∷◌, ◌++◌, map, codes, Some, Result, Ok, Err}
use Rattle.std.specs.Str.{is_utf8}
use Rattle.serde_json.specs.Data.{Data, object, string, member, no_members}
use Rattle.serde_json.specs.Read.{read}
use Rattle.serde_json.specs.Written.{compact_text}
use Rattle.wb_kept.specs.Runs.{Leads}
use Rattle.wb_edit.specs.declared.edit.Edit.{Edit}
use Rattle.wb_history.specs.Past.{Numbered, Past}
use Rattle.wb_history.specs.Restored.{IsCounted}
use Rattle.wb_edit.specs.declared.refusal.Refusal.{Refusal}
use Rattle.wb_edit.specs.declared.refusal.Refusal.TheVariants.{BadRequest}
use Rattle.wb_requests.specs.Requests.{request}
use Rattle.wb_requests.specs.declared.requests.request.Request.{Request}
use Rattle.wb_requests.specs.declared.requests.request.Request.TheVariants.{Change, Undo, Redo}
use Rattle.wb_requests.specs.Wire.Encoded.{request_line}
use Rattle.wb_machine.specs.Machine.{Changes, UndoesNumber, Redoes, StepIfRead, NothingDone}
use Rattle.wb_machine.specs.Replies.{reply_of}
use Rattle.wb_machine.specs.declared.replies.reply.Reply.{Reply}
use Rattle.wb_machine.specs.declared.replies.reply.Reply.TheVariants.{Edited, Undone, Cascaded, Redone}
use Rattle.wb_machine.specs.Histories.Text.{history_text, AreAsked, IsHistory}

-- the history before any change
abbrev pub no_edit : Past
no_edit = record { entries = []; writes = 0 }

-- A request that changes a history is granted: an edit, an undo or a redo of a number. No other request is a change.
abbrev pub GrantsRequest : Past → Request → Past → Type 0
GrantsRequest p (Change e) q = (k n : ℕ) × Changes p e (Edited k n) q
GrantsRequest p (Undo (Some k)) q = (n : ℕ) × UndoesNumber p k (Undone k n) q
GrantsRequest p (Redo k) q = (n : ℕ) × Redoes p k (Redone k n) q
GrantsRequest p _ q = ⊥

-- a line is read as such a request
abbrev pub GrantsAsked : Past → List ℕ → Past → Type 0
GrantsAsked p line q = (asked : Request) × (request line ≡ Ok asked) × GrantsRequest p asked q

-- `{"op":"resume","text":T}`, with T a text
abbrev pub resume_data : List ℕ → Data
resume_data text = object (member (codes "op") (string (codes "resume")) (member (codes "text") (string text) no_members))

-- The line that a file may begin with, in place of all changes that led to a history: the canonical line of `resume` with the
-- text of that history. It is no request, so that no session takes it.
pub record Begins (line : List ℕ) (q : Past) : Type 0 where
  pub utf8 : is_utf8 line ≡ true
  pub json : read line ≡ Some (resume_data (history_text q.entries))
  pub text : line ≡ compact_text (resume_data (history_text q.entries))
  pub history : IsHistory q.entries
  pub counted : IsCounted q

-- A line is a change: it is read as such a request, or a history without edits begins with it.
abbrev pub Grants : Past → List ℕ → Past → Type 0
Grants p line q = GrantsAsked p line q ⊎ ((p.entries ≡ []) × Begins line q)

-- an undo of each number
abbrev pub undos_of : List ℕ → List Request
undos_of ns = map (λ k. Undo (Some k)) ns

-- The undos and redos that a reply tells of. An undo of the latest edit is one of its number, and an undo with dependents is
-- an undo of each.
abbrev pub undos_made : Reply → List Request
undos_made (Undone k n) = Undo (Some k) ∷ []
undos_made (Redone k n) = Redo k ∷ []
undos_made (Cascaded ns n) = undos_of ns
undos_made reply = []

-- The requests that change the history as an answered request did. A question and a refusal change nothing.
abbrev pub changes_made : Reply → Result Request Refusal → List Request
changes_made (Edited k n) (Ok (Change e)) = Change e ∷ []
changes_made reply asked = undos_made reply

-- the canonical line of a request, which is read back as it
pub record IsLineOf (asked : Request) (line : List ℕ) : Type 0 where
  pub text : line ≡ request_line asked
  pub read_back : request line ≡ Ok asked

-- so is each line of a list
abbrev pub AreLinesOf : List Request → List (List ℕ) → Type 0
AreLinesOf [] [] = Unit {0}
AreLinesOf [] (line ∷ lines) = ⊥
AreLinesOf (asked ∷ more) [] = ⊥
AreLinesOf (asked ∷ more) (line ∷ lines) = IsLineOf asked line × AreLinesOf more lines

-- the lines of these requests were added
abbrev pub AddsLinesOf : List Request → (old new : List (List ℕ)) → Type 0
AddsLinesOf asked old new = (lines : List (List ℕ)) × AreLinesOf asked lines × (new ≡ old ++ lines)

-- the line was added, where the reply tells of a new edit
abbrev pub AddsIfEdited : Reply → List ℕ → (old new : List (List ℕ)) → Type 0
AddsIfEdited (Edited k n) line old new = new ≡ old ++ line ∷ []
AddsIfEdited reply line old new = new ≡ old

-- a request that is no edit
abbrev pub IsOther : Request → Type 0
IsOther (Change e) = ⊥
IsOther asked = Unit {0}

-- A line is answered with the text of a reply to its request, and the changes that it made are written as canonical lines.
pub record Answers (p : Past) (line text : List ℕ) (made : List (List ℕ)) (q : Past) : Type 0 where
  pub reply : Reply
  pub is_reply : StepIfRead p (request line) reply q ⊎ NothingDone p reply q
  pub is_text : text ≡ reply_of reply
  pub is_made : AreLinesOf (changes_made reply (request line)) made

-- a request that a log has
abbrev pub IsLogged : Request → Type 0
IsLogged (Change e) = Unit {0}
IsLogged (Undo (Some k)) = Unit {0}
IsLogged (Redo k) = Unit {0}
IsLogged asked = ⊥

-- A change leads to one history.
abbrev pub OneHistory : Type 0
OneHistory = (p : Past) (line : List ℕ) (q u : Past) → Grants p line q → Grants p line u → q ≡ u

-- The changes that an answer made, granted again one after the other, lead where it led.
abbrev pub ChangesLead : Type 0
ChangesLead = (p : Past) (line text : List ℕ) (made : List (List ℕ)) (q : Past) → Answers p line text made q → Leads Grants p made q

-- A line that a history begins with is no request.
abbrev pub BeginsNoSession : Type 0
BeginsNoSession = (line : List ℕ) (q : Past) → Begins line q → request line ≡ Err BadRequest

-- The edits of a history to which lines lead were each asked for by a line.
abbrev pub LinesAsk : Type 0
LinesAsk = (lines : List (List ℕ)) (q : Past) → Leads Grants no_edit lines q → AreAsked q.entries

-- the edits of a history, in the order of their numbers
abbrev pub edits_of : List Numbered → List Edit
edits_of es = map (λ x. x.edit) es

-- the edit that a line asks for, if it asks for one
abbrev pub edit_asked : Result Request Refusal → List Edit
edit_asked (Ok (Change e)) = e ∷ []
edit_asked asked = []

-- the edits that lines ask for, in order
abbrev pub edits_asked : List (List ℕ) → List Edit
edits_asked [] = []
edits_asked (line ∷ lines) = edit_asked (request line) ++ edits_asked lines

-- The edits of a history are those that its lines ask for, in their order.
abbrev pub EditsInOrder : Type 0
EditsInOrder = (lines : List (List ℕ)) (p q : Past) → Leads GrantsAsked p lines q → edits_of q.entries ≡ edits_of p.entries ++ edits_asked lines

-- Without any one of its lines, a file leads to another history, if to any.
abbrev pub EachLineCounts : Type 0
EachLineCounts = (before after : List (List ℕ)) (line : List ℕ) (p q u : Past) → Leads GrantsAsked p (before ++ line ∷ after) q →
    Leads GrantsAsked p (before ++ after) u → q ≢ u
