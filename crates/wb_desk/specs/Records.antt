-- What the forms stand for in which entries are kept.
use Rattle.std.specs.Prelude.{◌≡◌, ℕ, ◌<◌, Bool, true, false, List, [], length, map, take, slice_index_or, Option, None, Some}
use Rattle.std.specs.List.{All}
use Rattle.std.specs.Arc.{arc_value}
use Rattle.wb_cells.specs.Cells.{Name}
use Rattle.wb_edit.specs.Trees.{plain}
use Rattle.wb_history.specs.declared.query.Answer.{Answer}
use Rattle.wb_history.specs.declared.query.Answer.TheVariants as answers
use Rattle.wb_edit.specs.declared.query.Query.TheVariants as queries
use Rattle.wb_edit.specs.declared.refusal.Refusal.TheVariants as refusals
use Rattle.wb_requests.specs.declared.requests.request.Request.{Request}
use Rattle.wb_requests.specs.declared.requests.request.Request.TheVariants.{Change, Undo, Redo, Cascade, Dependents, Ask, Print, History, Edits, Explain}
use Rattle.wb_machine.specs.declared.replies.reply.Reply.{Reply}
use Rattle.wb_machine.specs.declared.replies.reply.Reply.TheVariants.{Edited, Undone, Cascaded, Redone, Listed, Answered, Printed, PrintedFrom, Counted, Explained, Refused}
use Rattle.wb_desk.specs.declared.entry.Entry.{Entry}
use Rattle.wb_desk.specs.declared.entry.LentEntry.{LentEntry}
use Rattle.wb_desk.specs.declared.entry.LentEntry.TheVariants.{Own, Lent, Replied as LentReply, OfLine as LentLine}
use Rattle.wb_desk.specs.declared.brief.Brief.{Brief}
use Rattle.wb_desk.specs.declared.brief.Brief.TheVariants as briefs
use Rattle.wb_desk.specs.declared.form.Form.{Form}
use Rattle.wb_desk.specs.declared.form.Form.TheVariants.{Set, SetPair, Get, GetPair, GetTriple, Where, WherePair, WhereTriple, Size, Reduce, State, Count, Denied, AtIndex, OnLocale, Unanswered, Replied, OfLine, Alone, Shared}
use Rattle.wb_desk.specs.declared.register.Register.{Register}
use Rattle.wb_desk.specs.Asked.{plain_request, request_at, reply_at}
use Rattle.wb_desk.specs.Briefs.{request_of}

-- the entry that is lent
abbrev pub lent_entry : LentEntry → Entry
lent_entry (Own e) = e
lent_entry (Lent e) = e.now
lent_entry (LentReply seat asked r) = record { seat = seat; request = asked; reply = r.now }
lent_entry (LentLine seat l) = record { seat = seat; request = Explain l.now.line; reply = l.now.reply }

-- the entry that is lent, if one is
abbrev pub lent_in : Option LentEntry → Option Entry
lent_in None = None
lent_in (Some e) = Some (lent_entry e)

-- the name at a place of a table
abbrev pub name_at : List Name → ℕ → Name
name_at names place = slice_index_or names place []

-- the entry of a seat, a name, what was asked of it, and the reply
abbrev pub told : ℕ → Name → Brief → Reply → Entry
told seat a b r = record { seat = seat; request = request_of a b; reply = r }

-- the entry of a seat, a name, what was asked of it, and the answer that was given
abbrev pub answered : ℕ → Name → Brief → Answer → Entry
answered seat a b x = told seat a b (Answered x)

-- the entry that a form of a seat stands for, by a table of names
abbrev pub shown : ℕ → List Name → Form → Entry
shown seat names (Set p i v k n) = told seat (name_at names p) (briefs.Set i v) (Edited k n)
shown seat names (SetPair p i j v k n) = told seat (name_at names p) (briefs.SetPair i j v) (Edited k n)
shown seat names (Get p i v) = answered seat (name_at names p) (briefs.Get i) (answers.Value v)
shown seat names (GetPair p i j v) = answered seat (name_at names p) (briefs.GetPair i j) (answers.Value v)
shown seat names (GetTriple p i j k v) = answered seat (name_at names p) (briefs.GetTriple i j k) (answers.Value v)
shown seat names (Where p i l) = answered seat (name_at names p) (briefs.Where i) (answers.Locale l)
shown seat names (WherePair p i j l) = answered seat (name_at names p) (briefs.WherePair i j) (answers.Locale l)
shown seat names (WhereTriple p i j k l) = answered seat (name_at names p) (briefs.WhereTriple i j k) (answers.Locale l)
shown seat names (Size p n) = answered seat (name_at names p) briefs.Size (answers.Size n)
shown seat names (Reduce p op v) = answered seat (name_at names p) (briefs.Reduce op) (answers.Value v)
shown seat names (State k b) = record { seat = seat; request = Ask (queries.State k); reply = Answered (answers.InForce b) }
shown seat names (Count n w) = record { seat = seat; request = Edits; reply = Counted n w }
shown seat names (Denied p why b) = told seat (name_at names p) b (Refused (refusals.Refused (plain why)))
shown seat names (AtIndex p t i) = record { seat = seat; request = request_at (name_at names p) (arc_value i) t; reply = reply_at t }
shown seat names (OnLocale p l r) = told seat (name_at names p) (briefs.Piece l) (arc_value r)
shown seat names (Unanswered q why) = record { seat = seat; request = plain_request q; reply = Refused why }
shown seat names (Replied q r) = record { seat = seat; request = plain_request q; reply = arc_value r }
shown seat names (OfLine l) = record { seat = seat; request = Explain (arc_value l).line; reply = (arc_value l).reply }
shown seat names (Alone e) = e.value
shown seat names (Shared e) = arc_value e

-- A form speaks of a name within a table of so many, or of none.
abbrev pub IsWithin : ℕ → Form → Type 0
IsWithin most (Set p i v k n) = p < most
IsWithin most (SetPair p i j v k n) = p < most
IsWithin most (Get p i v) = p < most
IsWithin most (GetPair p i j v) = p < most
IsWithin most (GetTriple p i j k v) = p < most
IsWithin most (Where p i l) = p < most
IsWithin most (WherePair p i j l) = p < most
IsWithin most (WhereTriple p i j k l) = p < most
IsWithin most (Size p n) = p < most
IsWithin most (Reduce p op v) = p < most
IsWithin most (State k b) = Unit {0}
IsWithin most (Count n w) = Unit {0}
IsWithin most (Denied p why b) = p < most
IsWithin most (AtIndex p t i) = p < most
IsWithin most (OnLocale p l r) = p < most
IsWithin most (Unanswered q why) = Unit {0}
IsWithin most (Replied q r) = Unit {0}
IsWithin most (OfLine l) = Unit {0}
IsWithin most (Alone e) = Unit {0}
IsWithin most (Shared e) = Unit {0}

-- each form speaks of a name of the table, or of none
abbrev pub IsKept : Register → Type 0
IsKept r = All (IsWithin (length r.names.items)) r.forms.items

-- the entries that the forms stand for
abbrev pub entries_in : Register → List Entry
entries_in r = map (shown r.seat r.names.items) r.forms.items

-- whether a reply accepts an edit
abbrev pub is_edited : Reply → Bool
is_edited (Edited k n) = true
is_edited (Undone k n) = false
is_edited (Cascaded ks n) = false
is_edited (Redone k n) = false
is_edited (Listed ks) = false
is_edited (Answered a) = false
is_edited (Printed t) = false
is_edited (PrintedFrom n t) = false
is_edited (Counted n w) = false
is_edited (Explained wrong) = false
is_edited (Refused why) = false

-- whether a request is a question, which changes nothing
abbrev pub is_question : Request → Bool
is_question (Change e) = false
is_question (Undo k) = false
is_question (Redo k) = false
is_question (Cascade k) = false
is_question (Dependents k) = true
is_question (Ask q) = true
is_question Print = true
is_question (History from) = true
is_question Edits = true
is_question (Explain line) = true
