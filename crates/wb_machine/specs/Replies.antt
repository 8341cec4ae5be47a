-- Replies as JSON values, their keys in ascending order, and their texts.
use Rattle.std.specs.Prelude.{ℕ, List, map, codes, Option, Some, None}
use Rattle.serde_json.specs.Data.{Data, null, boolean, number, unsigned, string, array, object, Members, member, no_members}
use Rattle.serde_json.specs.Find.{of_integer}
use Rattle.serde_json.specs.View.{items_of}
use Rattle.serde_json.specs.Written.{compact_text}
use Rattle.wb_cells.specs.declared.refusal.WhyRefused as why
use Rattle.wb_cells.specs.declared.refusal.WhyRefused.TheVariants.{NameTaken, NoSuchName, WrongKind, OutOfDomain}
use Rattle.wb_cells.specs.declared.refusal.WhyRefused.TheVariants.{OutOfParent, InUse, TooLarge, Overflow}
use Rattle.wb_cells.specs.declared.refusal.WhyRefused.TheVariants.{BadMapping, NotEmpty, Empty}
use Rattle.wb_history.specs.declared.query.Answer.{Answer}
use Rattle.wb_history.specs.declared.query.Answer.TheVariants.{Value, Size, Locale, Piece, InForce as InForceIs, Note as NoteIs}
use Rattle.wb_edit.specs.declared.refusal.Refusal.{Refusal}
use Rattle.wb_edit.specs.declared.refusal.Refusal.TheVariants.{BadRequest, BadLiteral, Refused, NoSuchEdit}
use Rattle.wb_edit.specs.declared.refusal.Refusal.TheVariants.{NotInForce, InForce, Blocked, RefusedInPlace}
use Rattle.wb_edit.specs.declared.refusal.Refusal.TheVariants.{NoMemory, StrangePass}
use Rattle.wb_requests.specs.Explained.{Explanation, rule_text}
use Rattle.wb_requests.specs.Wire.Faults.{refusal_of}
use Rattle.wb_machine.specs.Pieces.{piece_data}
use Rattle.wb_machine.specs.declared.replies.reply.Reply.{Reply}
use Rattle.wb_machine.specs.declared.replies.reply.Reply.TheVariants.{Edited, Undone, Cascaded, Redone, Listed, Answered, Printed, PrintedFrom, Counted, Explained, Refused as Refusing}

-- ---- the code and the name of each refusal

abbrev pub edit_code : why.WhyRefused → List ℕ
edit_code NameTaken = codes "E03"
edit_code NoSuchName = codes "E04"
edit_code WrongKind = codes "E05"
edit_code OutOfDomain = codes "E06"
edit_code OutOfParent = codes "E07"
edit_code InUse = codes "E08"
edit_code TooLarge = codes "E09"
edit_code Overflow = codes "E10"
edit_code BadMapping = codes "E15"
edit_code NotEmpty = codes "E17"
edit_code Empty = codes "E18"

abbrev pub edit_name : why.WhyRefused → List ℕ
edit_name NameTaken = codes "name-taken"
edit_name NoSuchName = codes "no-such-name"
edit_name WrongKind = codes "wrong-kind"
edit_name OutOfDomain = codes "out-of-domain"
edit_name OutOfParent = codes "out-of-parent"
edit_name InUse = codes "in-use"
edit_name TooLarge = codes "too-large"
edit_name Overflow = codes "overflow"
edit_name BadMapping = codes "bad-mapping"
edit_name NotEmpty = codes "not-empty"
edit_name Empty = codes "empty"

abbrev pub code_of : Refusal → List ℕ
code_of BadRequest = codes "E01"
code_of BadLiteral = codes "E02"
code_of (Refused e) = edit_code e.why
code_of NoSuchEdit = codes "E11"
code_of NotInForce = codes "E12"
code_of InForce = codes "E13"
code_of (Blocked by) = codes "E14"
code_of (RefusedInPlace e) = codes "E16"
code_of NoMemory = codes "E90"
code_of StrangePass = codes "E92"

abbrev pub name_of : Refusal → List ℕ
name_of BadRequest = codes "bad-request"
name_of BadLiteral = codes "bad-literal"
name_of (Refused e) = edit_name e.why
name_of NoSuchEdit = codes "no-such-edit"
name_of NotInForce = codes "not-in-force"
name_of InForce = codes "in-force"
name_of (Blocked by) = codes "blocked"
name_of (RefusedInPlace e) = codes "refused-in-place"
name_of NoMemory = codes "no-memory"
name_of StrangePass = codes "strange-pass"

-- ---- replies

-- the code and the name
abbrev pub named : Refusal → Members
named r = member (codes "error") (string (code_of r)) (member (codes "name") (string (name_of r)) no_members)

-- Before them the place of a command within its transaction, from 0, where there is one.
abbrev pub placed : Option ℕ → Members → Members
placed None ms = ms
placed (Some k) ms = member (codes "at") (number (unsigned k)) ms

-- A blocked undo or redo names its blocker, a redo that is refused in its place the code of the edit's refusal, and the refusal of a
-- transaction the place of the command that is refused.
abbrev pub refusal_data : Refusal → Data
refusal_data (Blocked by) = object (member (codes "by") (number (unsigned by)) (named (Blocked by)))
refusal_data (RefusedInPlace e) = object (placed e.at (member (codes "code") (string (edit_code e.why)) (named (RefusedInPlace e))))
refusal_data BadRequest = object (named BadRequest)
refusal_data BadLiteral = object (named BadLiteral)
refusal_data (Refused e) = object (placed e.at (named (Refused e)))
refusal_data NoSuchEdit = object (named NoSuchEdit)
refusal_data NotInForce = object (named NotInForce)
refusal_data InForce = object (named InForce)
refusal_data NoMemory = object (named NoMemory)
refusal_data StrangePass = object (named StrangePass)

-- a note, if there is one
abbrev pub note_data : Option (List ℕ) → Data
note_data None = null
note_data (Some n) = string n

abbrev pub answer_data : Answer → Data
answer_data (Value v) = object (member (codes "value") (number (of_integer v)) no_members)
answer_data (Size n) = object (member (codes "size") (number (unsigned n)) no_members)
answer_data (Locale l) = object (member (codes "locale") (number (unsigned l)) no_members)
answer_data (Piece xs) = piece_data xs
answer_data (InForceIs b) = object (member (codes "in_force") (boolean b) no_members)
answer_data (NoteIs n) = object (member (codes "note") (note_data n) no_members)

-- the numbers of edits
abbrev pub numbers_data : List ℕ → Data
numbers_data ks = array (items_of (map (λ k. number (unsigned k)) ks))

-- the field that is wrong, if it is one
abbrev pub field_data : Option (List ℕ) → Data
field_data None = null
field_data (Some key) = string key

-- what is wrong: {"error":CODE,"field":KEY,"name":NAME,"rule":TEXT}, with "at":PLACE of a command within a transaction, or null of a
-- line that is a request
abbrev pub wrong_data : Option Explanation → Data
wrong_data None = null
wrong_data (Some x) = object (placed x.at (
    member (codes "error") (string (code_of (refusal_of x.fault))) (
    member (codes "field") (field_data x.field) (
    member (codes "name") (string (name_of (refusal_of x.fault))) (
    member (codes "rule") (string (rule_text x.rule x.fault)) no_members)))))

abbrev pub reply_data : Reply → Data
reply_data (Edited k n) = object (member (codes "edit") (number (unsigned k)) (member (codes "n") (number (unsigned n)) no_members))
reply_data (Undone k n) = object (member (codes "n") (number (unsigned n)) (member (codes "undone") (number (unsigned k)) no_members))
reply_data (Cascaded ks n) = object (member (codes "n") (number (unsigned n)) (member (codes "undone") (numbers_data ks) no_members))
reply_data (Listed ks) = object (member (codes "dependents") (numbers_data ks) no_members)
reply_data (Redone k n) = object (member (codes "n") (number (unsigned n)) (member (codes "redone") (number (unsigned k)) no_members))
reply_data (Answered a) = answer_data a
reply_data (Printed t) = object (member (codes "text") (string t) no_members)
reply_data (PrintedFrom n t) = object (member (codes "edits") (number (unsigned n)) (member (codes "text") (string t) no_members))
reply_data (Counted n w) = object (member (codes "edits") (number (unsigned n)) (member (codes "writes") (number (unsigned w)) no_members))
reply_data (Explained wrong) = object (member (codes "wrong") (wrong_data wrong) no_members)
reply_data (Refusing r) = refusal_data r

-- the text of a reply, without a line end
abbrev pub reply_of : Reply → List ℕ
reply_of r = compact_text (reply_data r)
