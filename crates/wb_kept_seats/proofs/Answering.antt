-- A request of a pass that was answered, and the lines of what it changed.
use Rattle.std.proofs.Common.{◌≡◌, inl, ℕ, Bool, true, false, MatchBool, List, [], ◌∷◌, ◌++◌, Result, Ok, refl, sym, ap, ◌∙◌, subst, append_assoc, append-nil}
use mathlib.Core.List.{IsPrefix}
use Rattle.wb_kept.specs.Runs.{Leads}
use Rattle.wb_kept.proofs.Steps.{leads_append}
use Rattle.wb_kept_group.specs.Together.{changes_in}
use Rattle.wb_history.specs.Past.{Past}
use Rattle.wb_edit.specs.declared.refusal.Refusal.{Refusal}
use Rattle.wb_requests.specs.declared.requests.request.Request.{Request}
use Rattle.wb_requests.specs.declared.requests.request.Request.TheVariants.{Change}
use Rattle.wb_requests.specs.Wire.Encoded.{request_line}
use Rattle.wb_machine.specs.Machine.{Step, StepIfRead}
use Rattle.wb_machine.specs.Replies.{reply_of}
use Rattle.wb_machine.specs.declared.replies.reply.Reply.{Reply}
use Rattle.wb_keeping.specs.Granting.Granting.{Grants, no_edit, AddsIfEdited, AddsLinesOf, AreLinesOf, changes_made}
use Rattle.wb_keeping.specs.Granting.Leading.{changes_lead}
use Rattle.wb_keeping.proofs.Added.{adds_none, edit_added, other_added}
use Rattle.wb_machine.specs.declared.replies.reply.Reply.TheVariants.{Edited, Undone, Cascaded, Redone, Listed, Answered, Printed, PrintedFrom, Counted, Explained, Refused}
use Rattle.wb_desk.proofs.Courses.{all_more, tells_answered}
use Rattle.wb_desk.specs.Courses.{Course, Marked, all_of}
use Rattle.wb_desk.specs.Entries.{is_entered, leaves_all}
use Rattle.wb_desk.specs.Serving.{AnswersCourse, Enters, IsStrange, course_after, entry, share_after}
use Rattle.wb_desk.specs.declared.entry.Entry.{Entry}
use Rattle.wb_kept_seats.specs.Lines.{IsSaid, IsLineOfEdit, IsAhead, Adds}
use Rattle.wb_kept_seats.specs.KeptCourses.{KeptCourse, StandsForFront, IsKeptCourse}
use Rattle.wb_kept_seats.specs.Answering.{AnswersKept}
use Rattle.wb_kept_seats.specs.declared.lines.Ahead.{Ahead}
use Rattle.wb_kept_seats.specs.declared.lines.Ahead.TheVariants.{Edit, NoMemory, Other}
use Rattle.wb_kept_seats.proofs.Fronts.{stands_more}

no_both : (b : Bool) → b ≡ false → b ≡ true → ⊥
no_both b f t = let both : true ≡ false = sym t ∙ f in cc

-- ---- replies that tell of no change

left_none : (r : Reply) (asked : Result Request Refusal) → leaves_all r ≡ true → changes_made r asked ≡ []
left_none (Edited k n) asked e = absurd (no_both false refl e)
left_none (Undone k n) asked e = absurd (no_both false refl e)
left_none (Cascaded ks n) asked e = absurd (no_both false refl e)
left_none (Redone k n) asked e = absurd (no_both false refl e)
left_none (Listed ks) asked e = refl
left_none (Answered a) asked e = refl
left_none (Printed t) asked e = refl
left_none (PrintedFrom n t) asked e = refl
left_none (Counted n w) asked e = refl
left_none (Explained wrong) asked e = refl
left_none (Refused why) asked e = refl

unentered_left : (r : Reply) → is_entered r ≡ false → leaves_all r ≡ true
unentered_left (Edited k n) e = absurd (no_both true e refl)
unentered_left (Undone k n) e = absurd (no_both true e refl)
unentered_left (Cascaded ks n) e = absurd (no_both true e refl)
unentered_left (Redone k n) e = absurd (no_both true e refl)
unentered_left (Listed ks) e = refl
unentered_left (Answered a) e = refl
unentered_left (Printed t) e = refl
unentered_left (PrintedFrom n t) e = refl
unentered_left (Counted n w) e = refl
unentered_left (Explained wrong) e = refl
unentered_left (Refused why) e = refl

adds_nothing : (r : Reply) (asked : Result Request Refusal) (lines : List (List ℕ)) → leaves_all r ≡ true → AddsLinesOf (changes_made r asked) lines lines
adds_nothing r asked lines e = subst (λ rs. AddsLinesOf rs lines lines) (sym (left_none r asked e)) (adds_none lines)

-- ---- replies that do

pub line_text : (asked : Request) (line : List ℕ) → IsLineOfEdit asked line → line ≡ request_line asked
line_text (Change e) line is = is.text
line_text asked line is = absurd is

edit_adds : (p q : Past) (asked : Request) (line : List ℕ) (r : Reply) (old new : List (List ℕ)) → IsLineOfEdit asked line → Step p asked r q
    → AddsIfEdited r line old new → AddsLinesOf (changes_made r (Ok asked)) old new
edit_adds p q (Change e) line r old new is step added = edit_added p q e r line old new step is added
edit_adds p q asked line r old new is step added = absurd is

step_adds : (p q : Past) (asked : Request) (ahead : Ahead) (r : Reply) (old new : List (List ℕ)) → IsAhead asked ahead → Step p asked r q → Adds ahead r old new
    → AddsLinesOf (changes_made r (Ok asked)) old new
step_adds p q asked (Edit line) r old new is step added = edit_adds p q asked _ r old new is step added
step_adds p q asked NoMemory r old new is step added = absurd added
step_adds p q asked Other r old new is step added = other_added asked r old new is added

-- what a reply tells of is added, where it tells of a change
pub told_adds : (c d : Course) (seat : ℕ) (asked : Request) (ahead : Ahead) (r : Reply) (old new : List (List ℕ)) → IsAhead asked ahead → AnswersCourse c seat asked r d
    → leaves_all r ≡ false → Adds ahead r old new → AddsLinesOf (changes_made r (Ok asked)) old new
told_adds c d seat asked ahead r old new is answers changes added = by_entered (is_entered r) refl answers
  where
    by_entered : (b : Bool) → is_entered r ≡ b → MatchBool b (Enters c seat asked r d) (d ≡ c) → AddsLinesOf (changes_made r (Ok asked)) old new
    by_entered true e enters = step_adds c.history d.history asked ahead r old new is enters.reply added
    by_entered false e same = absurd (no_both (leaves_all r) changes (unentered_left r e))

-- ---- they lead where the answer led

step_leads : (p q : Past) (asked : Request) (r : Reply) (made : List (List ℕ)) → IsSaid asked → Step p asked r q → AreLinesOf (changes_made r (Ok asked)) made
    → Leads Grants p made q
step_leads p q asked r made said step are = changes_lead p said.0 (reply_of r) made q (record {
  reply = r;
  is_reply = inl (subst (λ a. StepIfRead p a r q) (sym said.1) step);
  is_text = refl;
  is_made = subst (λ a. AreLinesOf (changes_made r a) made) (sym said.1) are;
})

no_lines : (made : List (List ℕ)) → AreLinesOf [] made → made ≡ []
no_lines [] are = refl
no_lines (line ∷ made) are = absurd are

leads_on : (c d : Course) (seat : ℕ) (asked : Request) (r : Reply) (made : List (List ℕ)) → IsSaid asked → AnswersCourse c seat asked r d
    → AreLinesOf (changes_made r (Ok asked)) made → Leads Grants c.history made d.history
leads_on c d seat asked r made said answers are = by_entered (is_entered r) refl answers
  where
    by_entered : (b : Bool) → is_entered r ≡ b → MatchBool b (Enters c seat asked r d) (d ≡ c) → Leads Grants c.history made d.history
    by_entered true e enters = step_leads c.history d.history asked r made said enters.reply are
    by_entered false e same =
        let none : made ≡ [] = no_lines made (subst (λ rs. AreLinesOf rs made) (left_none r (Ok asked) (unentered_left r e)) are) in
        subst (λ ls. Leads Grants c.history ls d.history) (sym none) (ap (λ (x : Course). x.history) same)

leads_behind : (c d : Course) (seat : ℕ) (asked : Request) (r : Reply) (kept old new : List (List ℕ)) → IsSaid asked → AnswersCourse c seat asked r d
    → AddsLinesOf (changes_made r (Ok asked)) old new → Leads Grants no_edit (kept ++ old) c.history → Leads Grants no_edit (kept ++ new) d.history
leads_behind c d seat asked r kept old new said answers (made, are, is) before =
    let all : (kept ++ old) ++ made ≡ kept ++ new = append_assoc kept old made ∙ ap (λ ls. kept ++ ls) (sym is) in
    subst (λ ls. Leads Grants no_edit ls d.history) all
    (leads_append Grants no_edit c.history d.history (kept ++ old) made before (leads_on c d seat asked r made said answers are))

-- ---- the journal

all_grow : (ms : List Marked) (seat : ℕ) (asked : Request) (r : Reply) → (more : List Entry) × (all_of (course_after ms seat asked r) ≡ all_of ms ++ more)
all_grow ms seat asked r = by_entered (is_entered r) refl
  where
    by_entered : (b : Bool) → is_entered r ≡ b → (more : List Entry) × (all_of (course_after ms seat asked r) ≡ all_of ms ++ more)
    by_entered true e = (entry seat asked r ∷ [], rw (course_after, e) (all_more ms (entry seat asked r)))
    by_entered false e = ([], rw (course_after, e) (sym (append-nil (all_of ms))))

stands_on : (opening : Past) (ms : List Marked) (seat : ℕ) (asked : Request) (r : Reply) (lines : List (List ℕ)) → StandsForFront opening (all_of ms) lines
    → StandsForFront opening (all_of (course_after ms seat asked r)) lines
stands_on opening ms seat asked r lines stands =
    let grow = all_grow ms seat asked r in
    subst (λ (es : List Entry). StandsForFront opening es lines) (sym grow.1) (stands_more opening (all_of ms) grow.0 lines stands)

pub kept_answered : (opening : Past) (lines : List (List ℕ)) (k l : KeptCourse) (seat : ℕ) (own : List Entry) (asked : Request) (r : Reply) → IsSaid asked
    → AnswersKept k seat own asked r l → IsKeptCourse opening lines k → IsKeptCourse opening lines l
kept_answered opening lines k l seat own asked r said a kept = record {
  all = course_after kept.all seat asked r;
  tells = tells_answered opening kept.all k.course seat own asked r l.course a.strange a.answers kept.tells;
  fronts = λ front begins. stands_on opening kept.all seat asked r (lines ++ changes_in front)
      (kept.fronts front (subst (λ turns. IsPrefix front turns) a.turns.0 begins));
  leads = λ now.
      let waits = a.waits now in
      subst (λ turns. Leads Grants no_edit ((lines ++ changes_in turns) ++ l.waiting) l.course.history) (sym a.turns.0)
      (leads_behind k.course l.course seat asked r (lines ++ changes_in k.made) k.waiting l.waiting said a.answers waits.1 (kept.leads waits.0));
}

-- ---- the whole

module _ (k l : KeptCourse) (seat : ℕ) (own : List Entry) (asked : Request) (ahead : Ahead) (r : Reply) where
  -- the lines of what a reply tells of came to the changes of the turn, if it is open then
  waits_then : (b : Bool) → leaves_all r ≡ b → AnswersCourse k.course seat asked r l.course → IsAhead asked ahead
      → (leaves_all r ≡ true → (l.waiting ≡ k.waiting) × (l.is_open ≡ k.is_open))
      → (leaves_all r ≡ false → l.is_open ≡ true → (k.is_open ≡ true) × Adds ahead r k.waiting l.waiting)
      → l.is_open ≡ true → (k.is_open ≡ true) × AddsLinesOf (changes_made r (Ok asked)) k.waiting l.waiting
  waits_then true e answers is left told now = (
    sym (left e).1 ∙ now,
    subst (λ ls. AddsLinesOf (changes_made r (Ok asked)) k.waiting ls) (sym (left e).0) (adds_nothing r (Ok asked) k.waiting e),
  )
  waits_then false e answers is left told now =
      let added = told e now in
      (added.0, told_adds k.course l.course seat asked ahead r k.waiting l.waiting is answers e added.1)

  pub answered : IsStrange k.course seat own r → AnswersCourse k.course seat asked r l.course → l.total ≡ share_after k.total r → l.made ≡ k.made → l.taken ≡ k.taken
      → IsAhead asked ahead → (leaves_all r ≡ true → (l.waiting ≡ k.waiting) × (l.is_open ≡ k.is_open))
      → (leaves_all r ≡ false → l.is_open ≡ true → (k.is_open ≡ true) × Adds ahead r k.waiting l.waiting) → AnswersKept k seat own asked r l
  answered strange answers total made taken is left told = record {
    strange = strange;
    answers = answers;
    total = total;
    turns = (made, taken);
    waits = waits_then (leaves_all r) refl answers is left told;
    stays_open = λ e. (left e).1;
  }
