-- A change leads to one history, and the changes that an answer made lead where it led.
use Rattle.std.proofs.Common.{◌≡◌, ◌≢◌, inl, inr, ℕ, zero, suc, ◌+◌, ◌-◌, ◌^◌, List, [], ◌∷◌, ◌++◌, Some, None, Result, Ok, Err, refl, sym, ◌∙◌, ap, subst, arith, slice_get}
use Rattle.std.specs.Prelude.{min}
use Rattle.selective_undo.specs.History.{Entry, undo, traces, CanUndoAll, Has}
use Rattle.wb_cells.specs.Cells.{count_of, saturating_add}
use Rattle.wb_log.proofs.Granted.{undo_meant}
use Rattle.wb_log.proofs.Undoings.{capped}
use Rattle.wb_log.specs.Replies.{UndoReply, ByNumber}
use Rattle.wb_log.specs.Cascades.{IsDependent, IsRisen, all_out_of_force, places, set_back, touched}
use Rattle.wb_log.specs.Past.{out_of_force}
use Rattle.wb_history.proofs.OneAnswer.{edit_answer_law, undo_answer_law, redo_answer_law}
use Rattle.wb_edit.specs.Edits.{meaning}
use Rattle.wb_cells.specs.Schema.{workbook}
use Rattle.wb_edit.specs.declared.edit.Edit.{Edit}
use Rattle.wb_history.specs.Past.{Numbered, Past, meant}
use Rattle.wb_history.specs.Restored.{cells_written}
use Rattle.wb_edit.specs.declared.refusal.Refusal.{Refusal}
use Rattle.wb_edit.specs.declared.refusal.Refusal.TheVariants.{NoMemory}
use Rattle.wb_edit.specs.declared.query.Query.{Query}
use Rattle.wb_kept.specs.Runs.{Leads}
use Rattle.wb_requests.specs.Requests.{request}
use Rattle.wb_requests.specs.declared.requests.request.Request.{Request}
use Rattle.wb_requests.specs.declared.requests.request.Request.TheVariants.{Change, Undo, Redo, Cascade, Dependents, Ask, Print, History, Edits, Explain}
use Rattle.wb_machine.specs.Machine.{Changes, UndoesNumber, UndoesLatest, Redoes, Cascades, ListsDependents, Answers as AnswersQuery, Prints, PrintsHistory, PrintsFrom, Counts, Explains, Step, StepIfRead}
use Rattle.wb_machine.specs.declared.replies.reply.Reply.{Reply}
use Rattle.wb_machine.specs.declared.replies.reply.Reply.TheVariants.{Edited, Undone, Cascaded, Redone, Listed, Answered, Printed, PrintedFrom, Counted, Explained, Refused}
use Rattle.wb_keeping.specs.Granting.Granting.{GrantsRequest, GrantsAsked, Grants, Answers, AreLinesOf, undos_of, changes_made}
use Rattle.wb_keeping.specs.Granting.Beginning.{never_both, begun_one}

-- ---- a change leads to one history

abbrev past : List Numbered → ℕ → Past
past es n = record { entries = es; writes = n }

past_same : (q u : Past) → q.entries ≡ u.entries → q.writes ≡ u.writes → q ≡ u
past_same q u entries writes = ap (λ (es : List Numbered). past es q.writes) entries ∙ ap (λ (n : ℕ). past u.entries n) writes

ok_not : {X : Type 0} {x : X} {e : Refusal} → Ok x ≡ Err e → ⊥
ok_not h = cc

granted_one : (p : Past) (asked : Request) (q u : Past) → GrantsRequest p asked q → GrantsRequest p asked u → q ≡ u
granted_one p (Change e) q u (k, n, (reply, added)) (j, m, (other, also)) =
    let same : ◌≡◌ {A = Result (ℕ × ℕ) Refusal} (Ok (k, n)) (Ok (j, m)) = edit_answer_law (meant p.entries) (meaning e) (Ok (k, n)) (Ok (j, m)) reply other ok_not ok_not in
    let counts : n ≡ m = cc in
    past_same q u (added.entries ∙ sym also.entries) (added.writes ∙ ap (λ (c : ℕ). saturating_add p.writes c) counts ∙ sym also.writes)
granted_one p (Undo (Some k)) q u (n, (is, reply, out)) (m, (same_is, other, also)) =
    let same : Ok n ≡ Ok m = undo_answer_law (meant p.entries) k (Ok n) (Ok m) reply other ok_not ok_not in
    let counts : n ≡ m = cc in
    past_same q u (out.entries ∙ sym also.entries) (out.writes ∙ ap (λ (c : ℕ). saturating_add p.writes c) counts ∙ sym also.writes)
granted_one p (Redo k) q u (n, (is, reply, put)) (m, (same_is, other, also)) =
    let same : Ok n ≡ Ok m = redo_answer_law (meant p.entries) k (Ok n) (Ok m) reply other ok_not ok_not in
    let counts : n ≡ m = cc in
    past_same q u (put.entries ∙ sym also.entries) (put.writes ∙ ap (λ (c : ℕ). saturating_add p.writes c) counts ∙ sym also.writes)
granted_one p asked q u granted other = absurd granted

pub asked_one : (p : Past) (line : List ℕ) (q u : Past) → GrantsAsked p line q → GrantsAsked p line u → q ≡ u
asked_one p line q u (a, read, granted) (b, also, other) =
    let both : Ok a ≡ Ok b = sym read ∙ also in
    let same : a ≡ b = cc in
    granted_one p b q u (subst (λ (asked : Request). GrantsRequest p asked q) same granted) other

pub one_history : (p : Past) (line : List ℕ) (q u : Past) → Grants p line q → Grants p line u → q ≡ u
one_history p line q u (inl granted) (inl other) = asked_one p line q u granted other
one_history p line q u (inl granted) (inr begun) = absurd (never_both p line q u granted begun.1)
one_history p line q u (inr begun) (inl other) = absurd (never_both p line u q other begun.1)
one_history p line q u (inr begun) (inr other) =
    let entries = begun_one line q u begun.1 other.1 in
    past_same q u entries (begun.1.counted ∙ ap (λ (es : List Numbered). saturating_add 0 (cells_written (traces (meant es)))) entries ∙ sym other.1.counted)

-- ---- one line or none

none_made : (p q : Past) (made : List (List ℕ)) → q ≡ p → AreLinesOf [] made → Leads Grants p made q
none_made p q [] same lines = same
none_made p q (line ∷ more) same lines = absurd lines

one_made : (p q : Past) (asked : Request) (made : List (List ℕ)) → GrantsRequest p asked q → AreLinesOf (asked ∷ []) made → Leads Grants p made q
one_made p q asked [] granted lines = absurd lines
one_made p q asked (line ∷ []) granted lines = (q, inl (asked, lines.0.read_back, granted), refl)
one_made p q asked (line ∷ other ∷ more) granted lines = absurd lines.1

-- ---- an undo with dependents, as the undos of all

more_written : (w c n : ℕ) → saturating_add (saturating_add w c) n ≡ saturating_add w (c + n)
more_written w c n =
    let m = 2 ^ 128 - 1 in
    let sum : (w + c) + n ≡ w + (c + n) = omega arith in
    capped (w + c) n m ∙ ap (λ (k : ℕ). min k m) sum

by_number : (h : List (Entry workbook)) (n m : ℕ) → n ≢ 0 → UndoReply h (n - 1) (Ok m) → ByNumber (UndoReply h) n (Ok m)
by_number h zero m some back = absurd (some refl)
by_number h (suc k) m some back = let here : suc k - 1 ≡ k = omega arith in subst (λ (j : ℕ). UndoReply h j (Ok m)) here back

risen_rest : (ns : List ℕ) (h : List (Entry workbook)) (w c v : ℕ) → v ≡ saturating_add w (c + set_back h (places ns)) →
    IsRisen ns (saturating_add w c) (set_back h (places ns)) v
risen_rest [] h w c v is = let none : c + 0 ≡ c = omega arith in is ∙ ap (λ (k : ℕ). saturating_add w k) none
risen_rest (n ∷ ns) h w c v is = is ∙ sym (more_written w c (set_back h (places (n ∷ ns))))

undos_lead : (ns : List ℕ) (p q : Past) (made : List (List ℕ)) → ((n : ℕ) → Has ns n → n ≢ 0) → CanUndoAll (meant p.entries) (places ns) →
    q.entries ≡ all_out_of_force ns p.entries → IsRisen ns p.writes (set_back (meant p.entries) (places ns)) q.writes →
    AreLinesOf (undos_of ns) made → Leads Grants p made q
undos_lead [] p q made some can entries writes lines = none_made p q made (past_same q p entries writes) lines
undos_lead (n ∷ ns) p q [] some can entries writes lines = absurd lines
undos_lead (n ∷ ns) p q (line ∷ made) some can entries writes lines =
    let t = can.0.0 in
    let may = can.0.1 in
    let c = count_of t.before in
    let next : Past = record { entries = out_of_force (n - 1) p.entries; writes = saturating_add p.writes c } in
    let same : undo (n - 1) (meant p.entries) ≡ meant next.entries = undo_meant (n - 1) p.entries in
    let cells : touched (slice_get (traces (meant p.entries)) (n - 1)) ≡ c = ap touched may.in_force in
    let rest : set_back (undo (n - 1) (meant p.entries)) (places ns) ≡ set_back (meant next.entries) (places ns) = ap (λ h. set_back h (places ns)) same in
    let all : touched (slice_get (traces (meant p.entries)) (n - 1)) + set_back (undo (n - 1) (meant p.entries)) (places ns)
    ≡ c + set_back (meant next.entries) (places ns) = omega (arith, cells, rest) in
    let granted : GrantsRequest p (Undo (Some n)) next =
    (c, (refl, by_number (meant p.entries) n c (some n (inl refl)) (t, may, refl), record { entries = refl; writes = refl })) in (
      next,
      inl (Undo (Some n), lines.0.read_back, granted),
      undos_lead ns next q made (λ m has. some m (inr has)) (subst (λ h. CanUndoAll h (places ns)) same can.1) entries
          (risen_rest ns (meant next.entries) p.writes c q.writes (writes ∙ ap (λ (k : ℕ). saturating_add p.writes k) all)) lines.1,
    )

has_front : (ns left : List ℕ) (n : ℕ) → Has ns n → Has (ns ++ left) n
has_front [] left n has = absurd has
has_front (m ∷ ns) left n (inl here) = inl here
has_front (m ∷ ns) left n (inr more) = inr (has_front ns left n more)

risen_all : (ns : List ℕ) (w c v : ℕ) → ns ≢ [] → v ≡ saturating_add w c → IsRisen ns w c v
risen_all [] w c v some is = absurd (some refl)
risen_all (n ∷ ns) w c v some is = is

-- a dependent has a number
some_dependent : (ts : _) (k n : ℕ) → IsDependent ts k n → n ≢ 0
some_dependent ts k zero is = absurd is
some_dependent ts k (suc j) is = λ e. omega (arith, e)

cascade_leads : (p q : Past) (k n : ℕ) (ns : List ℕ) (made : List (List ℕ)) → Cascades p k (Cascaded ns n) q →
    AreLinesOf (undos_of ns) made → Leads Grants p made q
cascade_leads p q zero n ns made (due, out) lines = absurd (ok_not due)
cascade_leads p q (suc k) n ns made ((some, due, can, count), out) lines =
    undos_lead ns p q made (λ m has. some_dependent (traces (meant p.entries)) k m ((due.1.1.1 m).0 (has_front ns due.0 m has))) can out.entries
    (risen_all ns p.writes (set_back (meant p.entries) (places ns)) q.writes some out.writes) lines

-- ---- each request

change_leads : (p : Past) (e : Edit) (r : Reply) (q : Past) (made : List (List ℕ)) → Changes p e r q → AreLinesOf (changes_made r (Ok (Change e))) made →
    Leads Grants p made q
change_leads p e (Edited k n) q made step lines = one_made p q (Change e) made (k, n, step) lines
change_leads p e (Refused why) q made step lines = none_made p q made step.1 lines
change_leads p e r q made step lines = absurd step

undo_leads : (p : Past) (k : ℕ) (r : Reply) (q : Past) (made : List (List ℕ)) → UndoesNumber p k r q → AreLinesOf (changes_made r (Ok (Undo (Some k)))) made →
    Leads Grants p made q
undo_leads p k (Undone j n) q made step lines =
    let granted : GrantsRequest p (Undo (Some k)) q = (n, (refl, step.1, step.2)) in
    one_made p q (Undo (Some j)) made (subst (λ (i : ℕ). GrantsRequest p (Undo (Some i)) q) (sym step.0) granted) lines
undo_leads p k (Refused why) q made step lines = none_made p q made step.1 lines
undo_leads p k r q made step lines = absurd step

latest_granted : (p : Past) (k n : ℕ) (q : Past) → UndoesLatest p (Undone k n) q → GrantsRequest p (Undo (Some k)) q
latest_granted p k n q ((j, is, last, back), out) =
    let reply : ByNumber (UndoReply (meant p.entries)) k (Ok n) = subst (λ (i : ℕ). ByNumber (UndoReply (meant p.entries)) i (Ok n)) (sym is) back in
    (n, (refl, reply, out))

latest_leads : (p : Past) (r : Reply) (q : Past) (made : List (List ℕ)) → UndoesLatest p r q → AreLinesOf (changes_made r (Ok (Undo None))) made →
    Leads Grants p made q
latest_leads p (Undone k n) q made step lines = one_made p q (Undo (Some k)) made (latest_granted p k n q step) lines
latest_leads p (Refused why) q made step lines = none_made p q made step.1 lines
latest_leads p r q made step lines = absurd step

redo_leads : (p : Past) (k : ℕ) (r : Reply) (q : Past) (made : List (List ℕ)) → Redoes p k r q → AreLinesOf (changes_made r (Ok (Redo k))) made →
    Leads Grants p made q
redo_leads p k (Redone j n) q made step lines =
    let granted : GrantsRequest p (Redo k) q = (n, (refl, step.1, step.2)) in
    one_made p q (Redo j) made (subst (λ (i : ℕ). GrantsRequest p (Redo i) q) (sym step.0) granted) lines
redo_leads p k (Refused why) q made step lines = none_made p q made step.1 lines
redo_leads p k r q made step lines = absurd step

all_lead : (p : Past) (k : ℕ) (r : Reply) (q : Past) (made : List (List ℕ)) → Cascades p k r q → AreLinesOf (changes_made r (Ok (Cascade k))) made →
    Leads Grants p made q
all_lead p k (Cascaded ns n) q made step lines = cascade_leads p q k n ns made step lines
all_lead p k (Refused why) q made step lines = none_made p q made step.1 lines
all_lead p k r q made step lines = absurd step

-- a question leaves the history
list_leads : (p : Past) (k : ℕ) (r : Reply) (q : Past) (made : List (List ℕ)) → ListsDependents p k r q → AreLinesOf (changes_made r (Ok (Dependents k))) made →
    Leads Grants p made q
list_leads p k (Listed ns) q made step lines = none_made p q made step.1 lines
list_leads p k (Refused why) q made step lines = none_made p q made step.1 lines
list_leads p k r q made step lines = absurd step

query_leads : (p : Past) (asked : Query) (r : Reply) (q : Past) (made : List (List ℕ)) → AnswersQuery p asked r q → AreLinesOf (changes_made r (Ok (Ask asked))) made →
    Leads Grants p made q
query_leads p asked (Answered a) q made step lines = none_made p q made step.1 lines
query_leads p asked (Refused why) q made step lines = none_made p q made step.1 lines
query_leads p asked r q made step lines = absurd step

print_leads : (p : Past) (r : Reply) (q : Past) (made : List (List ℕ)) → Prints p r q → AreLinesOf (changes_made r (Ok Print)) made → Leads Grants p made q
print_leads p (Printed t) q made step lines = none_made p q made step.1 lines
print_leads p (Refused why) q made step lines = none_made p q made step.1 lines
print_leads p r q made step lines = absurd step

history_leads : (p : Past) (r : Reply) (q : Past) (made : List (List ℕ)) → PrintsHistory p r q → AreLinesOf (changes_made r (Ok (History None))) made →
    Leads Grants p made q
history_leads p (Printed t) q made step lines = none_made p q made step.1 lines
history_leads p (Refused why) q made step lines = none_made p q made step.1 lines
history_leads p r q made step lines = absurd step

from_leads : (p : Past) (k : ℕ) (r : Reply) (q : Past) (made : List (List ℕ)) → PrintsFrom p k r q → AreLinesOf (changes_made r (Ok (History (Some k)))) made →
    Leads Grants p made q
from_leads p k (PrintedFrom n t) q made step lines = none_made p q made step.2 lines
from_leads p k (Refused why) q made step lines = none_made p q made step.1 lines
from_leads p k r q made step lines = absurd step

count_leads : (p : Past) (r : Reply) (q : Past) (made : List (List ℕ)) → Counts p r q → AreLinesOf (changes_made r (Ok Edits)) made → Leads Grants p made q
count_leads p (Counted n w) q made step lines = none_made p q made step.2 lines
count_leads p r q made step lines = absurd step

explain_leads : (p : Past) (line : List ℕ) (r : Reply) (q : Past) (made : List (List ℕ)) → Explains p line r q → AreLinesOf (changes_made r (Ok (Explain line))) made →
    Leads Grants p made q
explain_leads p line (Explained wrong) q made step lines = none_made p q made step.1 lines
explain_leads p line (Refused why) q made step lines = none_made p q made step.1 lines
explain_leads p line r q made step lines = absurd step

-- ---- the whole

step_leads : (p : Past) (asked : Request) (r : Reply) (q : Past) (made : List (List ℕ)) → Step p asked r q → AreLinesOf (changes_made r (Ok asked)) made →
    Leads Grants p made q
step_leads p (Change e) r q made step lines = change_leads p e r q made step lines
step_leads p (Undo (Some k)) r q made step lines = undo_leads p k r q made step lines
step_leads p (Undo None) r q made step lines = latest_leads p r q made step lines
step_leads p (Redo k) r q made step lines = redo_leads p k r q made step lines
step_leads p (Cascade k) r q made step lines = all_lead p k r q made step lines
step_leads p (Dependents k) r q made step lines = list_leads p k r q made step lines
step_leads p (Ask asked) r q made step lines = query_leads p asked r q made step lines
step_leads p Print r q made step lines = print_leads p r q made step lines
step_leads p (History None) r q made step lines = history_leads p r q made step lines
step_leads p (History (Some k)) r q made step lines = from_leads p k r q made step lines
step_leads p Edits r q made step lines = count_leads p r q made step lines
step_leads p (Explain line) r q made step lines = explain_leads p line r q made step lines

refused_leads : (p q : Past) (asked : Result Request Refusal) (r : Reply) (why : Refusal) (made : List (List ℕ)) → r ≡ Refused why → q ≡ p →
    AreLinesOf (changes_made r asked) made → Leads Grants p made q
refused_leads p q asked r why made is same lines = none_made p q made same (subst (λ reply. AreLinesOf (changes_made reply asked) made) is lines)

read_leads : (p q : Past) (asked : Result Request Refusal) (r : Reply) (made : List (List ℕ)) → StepIfRead p asked r q →
    AreLinesOf (changes_made r asked) made → Leads Grants p made q
read_leads p q (Ok asked) r made step lines = step_leads p asked r q made step lines
read_leads p q (Err why) r made step lines = refused_leads p q (Err why) r why made step.0 step.1 lines

pub changes_lead : (p : Past) (line text : List ℕ) (made : List (List ℕ)) (q : Past) → Answers p line text made q → Leads Grants p made q
changes_lead p line text made q answered =
    elim answered.is_reply [
      | inl step ↦ read_leads p q (request line) answered.reply made step answered.is_made
      | inr nothing ↦ refused_leads p q (request line) answered.reply NoMemory made nothing.0 nothing.1 answered.is_made
    ]
