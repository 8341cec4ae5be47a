-- Which replies leave the history.
use Rattle.std.proofs.Common.{◌≡◌, ℕ, List, [], ◌∷◌, Bool, true, false, ◌&&◌, Option, Some, None, Ok, MatchBool, ap, refl, sym, subst}
use Rattle.wb_history.specs.Past.{Past}
use Rattle.wb_history.specs.declared.query.Answer.{Answer}
use Rattle.wb_edit.specs.declared.refusal.Refusal.{Refusal}
use Rattle.wb_requests.specs.declared.requests.request.Request.{Request}
use Rattle.wb_requests.specs.declared.requests.request.Request.TheVariants.{Change, Undo, Redo, Cascade, Dependents, Ask, Print, History, Edits, Explain}
use Rattle.wb_machine.specs.Machine.{Step}
use Rattle.wb_machine.specs.declared.replies.reply.Reply.{Reply}
use Rattle.wb_machine.specs.declared.replies.reply.Reply.TheVariants.{Edited, Undone, Cascaded, Redone, Listed, Answered, Printed, PrintedFrom, Counted, Explained, Refused}
use Rattle.wb_desk.specs.Entries.{is_entered, is_long, leaves_all, cascade_in}
use Rattle.wb_cells.specs.Cells.{Name}
use Rattle.wb_edit.specs.declared.command.Command.TheVariants as commands
use Rattle.wb_edit.specs.declared.edit.Edit.TheVariants as edits
use Rattle.wb_desk.specs.declared.brief.Brief.{Brief}
use Rattle.wb_desk.specs.declared.brief.Brief.TheVariants.{Set, SetPair, Get, GetPair, GetTriple, Where, WherePair, WhereTriple, Size, Reduce, Piece}
use Rattle.wb_desk.specs.Briefs.{request_of, is_new_value, point_of}
use Rattle.wb_desk.specs.Records.{is_edited, is_question}
use Rattle.wb_desk.specs.Courses.{Course}
use Rattle.wb_desk.specs.Serving.{Enters, AnswersCourse}

refused_leaves : (p : Past) (asked : Request) (why : Refusal) (q : Past) → Step p asked (Refused why) q → q ≡ p
refused_leaves p (Change e) why q s = s.1
refused_leaves p (Undo (Some k)) why q s = s.1
refused_leaves p (Undo None) why q s = s.1
refused_leaves p (Redo k) why q s = s.1
refused_leaves p (Cascade k) why q s = s.1
refused_leaves p (Dependents k) why q s = s.1
refused_leaves p (Ask a) why q s = s.1
refused_leaves p Print why q s = s.1
refused_leaves p (History None) why q s = s.1
refused_leaves p (History (Some k)) why q s = s.1
refused_leaves p Edits why q s = absurd s
refused_leaves p (Explain line) why q s = s.1

answered_leaves : (p : Past) (asked : Request) (a : Answer) (q : Past) → Step p asked (Answered a) q → q ≡ p
answered_leaves p (Change e) a q s = absurd s
answered_leaves p (Undo (Some k)) a q s = absurd s
answered_leaves p (Undo None) a q s = absurd s
answered_leaves p (Redo k) a q s = absurd s
answered_leaves p (Cascade k) a q s = absurd s
answered_leaves p (Dependents k) a q s = absurd s
answered_leaves p (Ask asked) a q s = s.1
answered_leaves p Print a q s = absurd s
answered_leaves p (History None) a q s = absurd s
answered_leaves p (History (Some k)) a q s = absurd s
answered_leaves p Edits a q s = absurd s
answered_leaves p (Explain line) a q s = absurd s

printed_leaves : (p : Past) (asked : Request) (t : _) (q : Past) → Step p asked (Printed t) q → q ≡ p
printed_leaves p (Change e) t q s = absurd s
printed_leaves p (Undo (Some k)) t q s = absurd s
printed_leaves p (Undo None) t q s = absurd s
printed_leaves p (Redo k) t q s = absurd s
printed_leaves p (Cascade k) t q s = absurd s
printed_leaves p (Dependents k) t q s = absurd s
printed_leaves p (Ask asked) t q s = absurd s
printed_leaves p Print t q s = s.1
printed_leaves p (History None) t q s = s.1
printed_leaves p (History (Some k)) t q s = absurd s
printed_leaves p Edits t q s = absurd s
printed_leaves p (Explain line) t q s = absurd s

printed_from_leaves : (p : Past) (asked : Request) (n : ℕ) (t : _) (q : Past) → Step p asked (PrintedFrom n t) q → q ≡ p
printed_from_leaves p (Change e) n t q s = absurd s
printed_from_leaves p (Undo (Some k)) n t q s = absurd s
printed_from_leaves p (Undo None) n t q s = absurd s
printed_from_leaves p (Redo k) n t q s = absurd s
printed_from_leaves p (Cascade k) n t q s = absurd s
printed_from_leaves p (Dependents k) n t q s = absurd s
printed_from_leaves p (Ask asked) n t q s = absurd s
printed_from_leaves p Print n t q s = absurd s
printed_from_leaves p (History None) n t q s = absurd s
printed_from_leaves p (History (Some k)) n t q s = s.2
printed_from_leaves p Edits n t q s = absurd s
printed_from_leaves p (Explain line) n t q s = absurd s

listed_leaves : (p : Past) (asked : Request) (ks : List ℕ) (q : Past) → Step p asked (Listed ks) q → q ≡ p
listed_leaves p (Change e) ks q s = absurd s
listed_leaves p (Undo (Some k)) ks q s = absurd s
listed_leaves p (Undo None) ks q s = absurd s
listed_leaves p (Redo k) ks q s = absurd s
listed_leaves p (Cascade k) ks q s = absurd s
listed_leaves p (Dependents k) ks q s = s.1
listed_leaves p (Ask asked) ks q s = absurd s
listed_leaves p Print ks q s = absurd s
listed_leaves p (History None) ks q s = absurd s
listed_leaves p (History (Some k)) ks q s = absurd s
listed_leaves p Edits ks q s = absurd s
listed_leaves p (Explain line) ks q s = absurd s

counted_leaves : (p : Past) (asked : Request) (n w : ℕ) (q : Past) → Step p asked (Counted n w) q → q ≡ p
counted_leaves p (Change e) n w q s = absurd s
counted_leaves p (Undo (Some k)) n w q s = absurd s
counted_leaves p (Undo None) n w q s = absurd s
counted_leaves p (Redo k) n w q s = absurd s
counted_leaves p (Cascade k) n w q s = absurd s
counted_leaves p (Dependents k) n w q s = absurd s
counted_leaves p (Ask asked) n w q s = absurd s
counted_leaves p Print n w q s = absurd s
counted_leaves p (History None) n w q s = absurd s
counted_leaves p (History (Some k)) n w q s = absurd s
counted_leaves p Edits n w q s = s.2
counted_leaves p (Explain line) n w q s = absurd s

explained_leaves : (p : Past) (asked : Request) (wrong : _) (q : Past) → Step p asked (Explained wrong) q → q ≡ p
explained_leaves p (Change e) wrong q s = absurd s
explained_leaves p (Undo (Some k)) wrong q s = absurd s
explained_leaves p (Undo None) wrong q s = absurd s
explained_leaves p (Redo k) wrong q s = absurd s
explained_leaves p (Cascade k) wrong q s = absurd s
explained_leaves p (Dependents k) wrong q s = absurd s
explained_leaves p (Ask asked) wrong q s = absurd s
explained_leaves p Print wrong q s = absurd s
explained_leaves p (History None) wrong q s = absurd s
explained_leaves p (History (Some k)) wrong q s = absurd s
explained_leaves p Edits wrong q s = absurd s
explained_leaves p (Explain line) wrong q s = s.1

-- Only an undo with dependents is replied by what it undid.
cascaded_leaves : (p : Past) (asked : Request) (ks : List ℕ) (n : ℕ) (q : Past) → cascade_in asked ≡ None → Step p asked (Cascaded ks n) q → q ≡ p
cascaded_leaves p (Change e) ks n q none s = absurd s
cascaded_leaves p (Undo (Some k)) ks n q none s = absurd s
cascaded_leaves p (Undo None) ks n q none s = absurd s
cascaded_leaves p (Redo k) ks n q none s = absurd s
cascaded_leaves p (Cascade k) ks n q none s = cc
cascaded_leaves p (Dependents k) ks n q none s = absurd s
cascaded_leaves p (Ask asked) ks n q none s = absurd s
cascaded_leaves p Print ks n q none s = absurd s
cascaded_leaves p (History None) ks n q none s = absurd s
cascaded_leaves p (History (Some k)) ks n q none s = absurd s
cascaded_leaves p Edits ks n q none s = absurd s
cascaded_leaves p (Explain line) ks n q none s = absurd s

pub unentered_leaves : (p : Past) (asked : Request) (r : Reply) (q : Past) → Step p asked r q → is_entered r ≡ false → q ≡ p
unentered_leaves p asked (Edited k n) q s e = cc
unentered_leaves p asked (Undone k n) q s e = cc
unentered_leaves p asked (Cascaded ks n) q s e = cc
unentered_leaves p asked (Redone k n) q s e = cc
unentered_leaves p asked (Listed ks) q s e = cc
unentered_leaves p asked (Answered a) q s e = cc
unentered_leaves p asked (Printed t) q s e = cc
unentered_leaves p asked (PrintedFrom n t) q s e = cc
unentered_leaves p asked (Counted n w) q s e = cc
unentered_leaves p asked (Explained wrong) q s e = cc
unentered_leaves p asked (Refused why) q s e = refused_leaves p asked why q s

pub long_leaves : (p : Past) (asked : Request) (r : Reply) (q : Past) → cascade_in asked ≡ None → Step p asked r q → is_long r ≡ true → q ≡ p
long_leaves p asked (Edited k n) q none s e = cc
long_leaves p asked (Undone k n) q none s e = cc
long_leaves p asked (Cascaded ks n) q none s e = cascaded_leaves p asked ks n q none s
long_leaves p asked (Redone k n) q none s e = cc
long_leaves p asked (Listed ks) q none s e = listed_leaves p asked ks q s
long_leaves p asked (Answered a) q none s e = answered_leaves p asked a q s
long_leaves p asked (Printed t) q none s e = printed_leaves p asked t q s
long_leaves p asked (PrintedFrom n t) q none s e = printed_from_leaves p asked n t q s
long_leaves p asked (Counted n w) q none s e = cc
long_leaves p asked (Explained wrong) q none s e = explained_leaves p asked wrong q s
long_leaves p asked (Refused why) q none s e = cc

pub left : (p : Past) (asked : Request) (r : Reply) (q : Past) → Step p asked r q → leaves_all r ≡ true → q ≡ p
left p asked (Edited k n) q s e = cc
left p asked (Undone k n) q s e = cc
left p asked (Cascaded ks n) q s e = cc
left p asked (Redone k n) q s e = cc
left p asked (Listed ks) q s e = listed_leaves p asked ks q s
left p asked (Answered a) q s e = answered_leaves p asked a q s
left p asked (Printed t) q s e = printed_leaves p asked t q s
left p asked (PrintedFrom n t) q s e = printed_from_leaves p asked n t q s
left p asked (Counted n w) q s e = counted_leaves p asked n w q s
left p asked (Explained wrong) q s e = explained_leaves p asked wrong q s
left p asked (Refused why) q s e = refused_leaves p asked why q s

pub course_left : (c : Course) (k : ℕ) (asked : Request) (r : Reply) (d : Course) → AnswersCourse c k asked r d → leaves_all r ≡ true → d.history ≡ c.history
course_left c k asked r d a e = by_entered (is_entered r) a
  where
    by_entered : (b : Bool) → MatchBool b (Enters c k asked r d) (d ≡ c) → d.history ≡ c.history
    by_entered true enters = left c.history asked r d.history enters.reply e
    by_entered false same = ap (λ (x : Course). x.history) same

-- A reply to a new value of an element that does not accept it leaves the history, and so does a reply to a question.
change_leaves : (p : Past) (e : _) (r : Reply) (q : Past) → Step p (Change e) r q → is_edited r ≡ false → q ≡ p
change_leaves p e (Edited k n) q s off = cc
change_leaves p e (Undone k n) q s off = absurd s
change_leaves p e (Cascaded ks n) q s off = absurd s
change_leaves p e (Redone k n) q s off = absurd s
change_leaves p e (Listed ks) q s off = absurd s
change_leaves p e (Answered a) q s off = absurd s
change_leaves p e (Printed t) q s off = absurd s
change_leaves p e (PrintedFrom n t) q s off = absurd s
change_leaves p e (Counted n w) q s off = absurd s
change_leaves p e (Explained wrong) q s off = absurd s
change_leaves p e (Refused why) q s off = refused_leaves p (Change e) why q s

not_edited : (r : Reply) → (is_edited r && true) ≡ false → is_edited r ≡ false
not_edited (Edited k n) off = cc
not_edited (Undone k n) off = refl
not_edited (Cascaded ks n) off = refl
not_edited (Redone k n) off = refl
not_edited (Listed ks) off = refl
not_edited (Answered a) off = refl
not_edited (Printed t) off = refl
not_edited (PrintedFrom n t) off = refl
not_edited (Counted n w) off = refl
not_edited (Explained wrong) off = refl
not_edited (Refused why) off = refl

-- No question is replied by what a change is.
edited_is_no_question : (p : Past) (asked : Request) (k n : ℕ) (q : Past) → is_question asked ≡ true → Step p asked (Edited k n) q → q ≡ p
edited_is_no_question p (Change e) k n q question s = cc
edited_is_no_question p (Undo x) k n q question s = cc
edited_is_no_question p (Redo x) k n q question s = cc
edited_is_no_question p (Cascade x) k n q question s = cc
edited_is_no_question p (Dependents x) k n q question s = absurd s
edited_is_no_question p (Ask x) k n q question s = absurd s
edited_is_no_question p Print k n q question s = absurd s
edited_is_no_question p (History None) k n q question s = absurd s
edited_is_no_question p (History (Some x)) k n q question s = absurd s
edited_is_no_question p Edits k n q question s = absurd s
edited_is_no_question p (Explain line) k n q question s = absurd s

undone_is_no_question : (p : Past) (asked : Request) (k n : ℕ) (q : Past) → is_question asked ≡ true → Step p asked (Undone k n) q → q ≡ p
undone_is_no_question p (Change e) k n q question s = cc
undone_is_no_question p (Undo x) k n q question s = cc
undone_is_no_question p (Redo x) k n q question s = cc
undone_is_no_question p (Cascade x) k n q question s = cc
undone_is_no_question p (Dependents x) k n q question s = absurd s
undone_is_no_question p (Ask x) k n q question s = absurd s
undone_is_no_question p Print k n q question s = absurd s
undone_is_no_question p (History None) k n q question s = absurd s
undone_is_no_question p (History (Some x)) k n q question s = absurd s
undone_is_no_question p Edits k n q question s = absurd s
undone_is_no_question p (Explain line) k n q question s = absurd s

redone_is_no_question : (p : Past) (asked : Request) (k n : ℕ) (q : Past) → is_question asked ≡ true → Step p asked (Redone k n) q → q ≡ p
redone_is_no_question p (Change e) k n q question s = cc
redone_is_no_question p (Undo x) k n q question s = cc
redone_is_no_question p (Redo x) k n q question s = cc
redone_is_no_question p (Cascade x) k n q question s = cc
redone_is_no_question p (Dependents x) k n q question s = absurd s
redone_is_no_question p (Ask x) k n q question s = absurd s
redone_is_no_question p Print k n q question s = absurd s
redone_is_no_question p (History None) k n q question s = absurd s
redone_is_no_question p (History (Some x)) k n q question s = absurd s
redone_is_no_question p Edits k n q question s = absurd s
redone_is_no_question p (Explain line) k n q question s = absurd s

cascaded_is_no_question : (p : Past) (asked : Request) (k : List ℕ) (n : ℕ) (q : Past) → is_question asked ≡ true → Step p asked (Cascaded k n) q → q ≡ p
cascaded_is_no_question p (Change e) k n q question s = cc
cascaded_is_no_question p (Undo x) k n q question s = cc
cascaded_is_no_question p (Redo x) k n q question s = cc
cascaded_is_no_question p (Cascade x) k n q question s = cc
cascaded_is_no_question p (Dependents x) k n q question s = absurd s
cascaded_is_no_question p (Ask x) k n q question s = absurd s
cascaded_is_no_question p Print k n q question s = absurd s
cascaded_is_no_question p (History None) k n q question s = absurd s
cascaded_is_no_question p (History (Some x)) k n q question s = absurd s
cascaded_is_no_question p Edits k n q question s = absurd s
cascaded_is_no_question p (Explain line) k n q question s = absurd s

pub question_leaves : (p : Past) (asked : Request) (r : Reply) (q : Past) → is_question asked ≡ true → Step p asked r q → q ≡ p
question_leaves p asked (Listed ks) q question s = listed_leaves p asked ks q s
question_leaves p asked (Answered a) q question s = answered_leaves p asked a q s
question_leaves p asked (Printed t) q question s = printed_leaves p asked t q s
question_leaves p asked (PrintedFrom n t) q question s = printed_from_leaves p asked n t q s
question_leaves p asked (Counted n w) q question s = counted_leaves p asked n w q s
question_leaves p asked (Explained wrong) q question s = explained_leaves p asked wrong q s
question_leaves p asked (Refused why) q question s = refused_leaves p asked why q s
question_leaves p asked (Edited k n) q question s = edited_is_no_question p asked k n q question s
question_leaves p asked (Undone k n) q question s = undone_is_no_question p asked k n q question s
question_leaves p asked (Cascaded ks n) q question s = cascaded_is_no_question p asked ks n q question s
question_leaves p asked (Redone k n) q question s = redone_is_no_question p asked k n q question s

-- Of what is asked of a name only a new value that was accepted changes the history.
pub brief_leaves : (p : Past) (a : Name) (b : Brief) (r : Reply) (q : Past) → Step p (request_of a b) r q → (is_edited r && is_new_value b) ≡ false → q ≡ p
brief_leaves p a (Set i v) r q s off = change_leaves p (edits.Command (commands.Set a (point_of (i ∷ [])) v)) r q s (not_edited r off)
brief_leaves p a (SetPair i j v) r q s off = change_leaves p (edits.Command (commands.Set a (point_of (i ∷ j ∷ [])) v)) r q s (not_edited r off)
brief_leaves p a (Get i) r q s off = question_leaves p (request_of a (Get i)) r q refl s
brief_leaves p a (GetPair i j) r q s off = question_leaves p (request_of a (GetPair i j)) r q refl s
brief_leaves p a (GetTriple i j k) r q s off = question_leaves p (request_of a (GetTriple i j k)) r q refl s
brief_leaves p a (Where i) r q s off = question_leaves p (request_of a (Where i)) r q refl s
brief_leaves p a (WherePair i j) r q s off = question_leaves p (request_of a (WherePair i j)) r q refl s
brief_leaves p a (WhereTriple i j k) r q s off = question_leaves p (request_of a (WhereTriple i j k)) r q refl s
brief_leaves p a Size r q s off = question_leaves p (request_of a Size) r q refl s
brief_leaves p a (Reduce op) r q s off = question_leaves p (request_of a (Reduce op)) r q refl s
brief_leaves p a (Piece l) r q s off = question_leaves p (request_of a (Piece l)) r q refl s

pub placed_leaves : (p : Past) (asked : Request) (a : Name) (b : Brief) (r : Reply) (q : Past) → request_of a b ≡ asked → Step p asked r q → (is_edited r && is_new_value b) ≡ false → q ≡ p
placed_leaves p asked a b r q is s off = brief_leaves p a b r q (subst (λ (x : Request). Step p x r q) (sym is) s) off
