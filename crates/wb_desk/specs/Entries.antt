-- The entries of a journal: what each seat asked, and what it was replied.
use Rattle.std.specs.Prelude.{ℕ, Bool, true, false, ◌==◌, List, filter, Option, Some, None}
use Rattle.wb_edit.specs.declared.refusal.Refusal.{Refusal}
use Rattle.wb_edit.specs.declared.refusal.Refusal.TheVariants.{BadRequest, BadLiteral, Refused as EditRefused}
use Rattle.wb_edit.specs.declared.refusal.Refusal.TheVariants.{NoSuchEdit, NotInForce, InForce, Blocked}
use Rattle.wb_edit.specs.declared.refusal.Refusal.TheVariants.{RefusedInPlace, NoMemory, StrangePass}
use Rattle.wb_requests.specs.declared.requests.request.Request.{Request}
use Rattle.wb_requests.specs.declared.requests.request.Request.TheVariants.{Change, Undo, Redo, Cascade, Dependents, Ask, Print, History, Edits, Explain}
use Rattle.wb_machine.specs.declared.replies.reply.Reply.{Reply}
use Rattle.wb_machine.specs.declared.replies.reply.Reply.TheVariants.{Edited, Undone, Cascaded, Redone, Listed, Answered, Printed, PrintedFrom, Counted, Explained, Refused}
use Rattle.wb_desk.specs.declared.entry.Entry.{Entry}

-- the entries of a seat, in order
abbrev pub of_seat : ℕ → List Entry → List Entry
of_seat k es = filter (λ e. e.seat == k) es

abbrev pub is_told : Refusal → Bool
is_told NoMemory = false
is_told StrangePass = false
is_told BadRequest = true
is_told BadLiteral = true
is_told (EditRefused why) = true
is_told NoSuchEdit = true
is_told NotInForce = true
is_told InForce = true
is_told (Blocked by) = true
is_told (RefusedInPlace why) = true

-- Every reply is entered, but that there was no memory, and that the pass is strange.
abbrev pub is_entered : Reply → Bool
is_entered (Edited k n) = true
is_entered (Undone k n) = true
is_entered (Cascaded ks n) = true
is_entered (Redone k n) = true
is_entered (Listed ks) = true
is_entered (Answered a) = true
is_entered (Printed t) = true
is_entered (PrintedFrom n t) = true
is_entered (Counted n w) = true
is_entered (Explained wrong) = true
is_entered (Refused why) = is_told why

-- whether a reply is an answer, a list, a text or what is told of a line, whose copies take memory
abbrev pub is_long : Reply → Bool
is_long (Edited k n) = false
is_long (Undone k n) = false
is_long (Cascaded ks n) = true
is_long (Redone k n) = false
is_long (Listed ks) = true
is_long (Answered a) = true
is_long (Printed t) = true
is_long (PrintedFrom n t) = true
is_long (Counted n w) = false
is_long (Explained wrong) = true
is_long (Refused why) = false

-- whether a reply says that nothing was changed: a refusal, an answer, dependents, a text, a count or what is told of a line
abbrev pub leaves_all : Reply → Bool
leaves_all (Edited k n) = false
leaves_all (Undone k n) = false
leaves_all (Cascaded ks n) = false
leaves_all (Redone k n) = false
leaves_all (Listed ks) = true
leaves_all (Answered a) = true
leaves_all (Printed t) = true
leaves_all (PrintedFrom n t) = true
leaves_all (Counted n w) = true
leaves_all (Explained wrong) = true
leaves_all (Refused why) = true

-- the number of the edit that a request undoes with all that need it
abbrev pub cascade_in : Request → Option ℕ
cascade_in (Cascade k) = Some k
cascade_in (Change e) = None
cascade_in (Undo k) = None
cascade_in (Redo k) = None
cascade_in (Dependents k) = None
cascade_in (Ask asked) = None
cascade_in Print = None
cascade_in (History from) = None
cascade_in Edits = None
cascade_in (Explain line) = None
