-- A line leaves a history whose edits were asked for by lines such a history.
use Rattle.std.proofs.Common.{◌≡◌, inl, inr, ℕ, zero, suc, ◌-◌, Bool, true, false, List, [], ◌∷◌, Some, None, Result, Ok, Err, refl, sym, ap, subst}
use Rattle.wb_edit.specs.declared.edit.Edit.{Edit}
use Rattle.wb_history.specs.Past.{Numbered, Past, set_force}
use Rattle.wb_history.specs.Cascades.{all_out_of_force}
use Rattle.wb_history.specs.Restored.{one_of}
use Rattle.wb_edit.specs.declared.query.Query.{Query}
use Rattle.wb_edit.specs.declared.refusal.Refusal.{Refusal}
use Rattle.wb_requests.specs.Requests.{request}
use Rattle.wb_requests.specs.declared.requests.request.Request.{Request}
use Rattle.wb_requests.specs.declared.requests.request.Request.TheVariants.{Change, Undo, Redo, Cascade, Dependents, Ask, Print, History, Edits, Explain}
use Rattle.wb_machine.specs.Machine.{Changes, UndoesNumber, UndoesLatest, Cascades, Redoes}
use Rattle.wb_machine.specs.Machine.{ListsDependents, Answers, Prints, PrintsHistory, PrintsFrom, Counts, Explains, Step}
use Rattle.wb_machine.specs.Machine.{StepIfRead}
use Rattle.wb_machine.specs.declared.replies.reply.Reply.{Reply}
use Rattle.wb_machine.specs.declared.replies.reply.Reply.TheVariants.{Edited, Undone, Cascaded, Redone, Listed, Answered, Printed, PrintedFrom, Counted, Explained, Refused}
use Rattle.wb_machine.specs.Histories.Laws.{KeepsAsked}
use Rattle.wb_machine.specs.Histories.Text.{IsAsked, AreAsked}
use Rattle.wb_machine.proofs.HistoryTexts.Asked.{asked_with}

-- ---- marks alone change

asked_set : (b : Bool) (k : ℕ) (es : List Numbered) → AreAsked es → AreAsked (set_force b k es)
asked_set b k [] h = tt
asked_set b zero (x ∷ es) h = h
asked_set b (suc k) (x ∷ es) h = (h.0, asked_set b k es h.1)

asked_out : (ns : List ℕ) (es : List Numbered) → AreAsked es → AreAsked (all_out_of_force ns es)
asked_out [] es h = h
asked_out (n ∷ ns) es h = asked_out ns (set_force false (n - 1) es) (asked_set false (n - 1) es h)

-- ---- each kind of request

module _ (p q : Past) (asked : AreAsked p.entries) where
  same : q ≡ p → AreAsked q.entries
  same e = subst (λ (x : Past). AreAsked x.entries) (sym e) asked

  marked : (b : Bool) (k : ℕ) → q.entries ≡ set_force b k p.entries → AreAsked q.entries
  marked b k e = subst AreAsked (sym e) (asked_set b k p.entries asked)

  changes : (e : Edit) → IsAsked e → (r : Reply) → Changes p e r q → AreAsked q.entries
  changes e one (Edited k n) h = subst AreAsked (sym h.1.entries) (asked_with p.entries (one_of e true) asked one)
  changes e one (Undone k n) h = absurd h
  changes e one (Cascaded ns n) h = absurd h
  changes e one (Redone k n) h = absurd h
  changes e one (Listed ns) h = absurd h
  changes e one (Answered a) h = absurd h
  changes e one (Printed t) h = absurd h
  changes e one (PrintedFrom n t) h = absurd h
  changes e one (Counted n w) h = absurd h
  changes e one (Explained wrong) h = absurd h
  changes e one (Refused why) h = same h.1

  undoes : (k : ℕ) (r : Reply) → UndoesNumber p k r q → AreAsked q.entries
  undoes m (Edited k n) h = absurd h
  undoes m (Undone k n) h = marked false (m - 1) h.2.entries
  undoes m (Cascaded ns n) h = absurd h
  undoes m (Redone k n) h = absurd h
  undoes m (Listed ns) h = absurd h
  undoes m (Answered a) h = absurd h
  undoes m (Printed t) h = absurd h
  undoes m (PrintedFrom n t) h = absurd h
  undoes m (Counted n w) h = absurd h
  undoes m (Explained wrong) h = absurd h
  undoes m (Refused why) h = same h.1

  undoes_latest : (r : Reply) → UndoesLatest p r q → AreAsked q.entries
  undoes_latest (Edited k n) h = absurd h
  undoes_latest (Undone k n) h = marked false (k - 1) h.1.entries
  undoes_latest (Cascaded ns n) h = absurd h
  undoes_latest (Redone k n) h = absurd h
  undoes_latest (Listed ns) h = absurd h
  undoes_latest (Answered a) h = absurd h
  undoes_latest (Printed t) h = absurd h
  undoes_latest (PrintedFrom n t) h = absurd h
  undoes_latest (Counted n w) h = absurd h
  undoes_latest (Explained wrong) h = absurd h
  undoes_latest (Refused why) h = same h.1

  cascades : (k : ℕ) (r : Reply) → Cascades p k r q → AreAsked q.entries
  cascades m (Edited k n) h = absurd h
  cascades m (Undone k n) h = absurd h
  cascades m (Cascaded ns n) h = subst AreAsked (sym h.1.entries) (asked_out ns p.entries asked)
  cascades m (Redone k n) h = absurd h
  cascades m (Listed ns) h = absurd h
  cascades m (Answered a) h = absurd h
  cascades m (Printed t) h = absurd h
  cascades m (PrintedFrom n t) h = absurd h
  cascades m (Counted n w) h = absurd h
  cascades m (Explained wrong) h = absurd h
  cascades m (Refused why) h = same h.1

  redoes : (k : ℕ) (r : Reply) → Redoes p k r q → AreAsked q.entries
  redoes m (Edited k n) h = absurd h
  redoes m (Undone k n) h = absurd h
  redoes m (Cascaded ns n) h = absurd h
  redoes m (Redone k n) h = marked true (m - 1) h.2.entries
  redoes m (Listed ns) h = absurd h
  redoes m (Answered a) h = absurd h
  redoes m (Printed t) h = absurd h
  redoes m (PrintedFrom n t) h = absurd h
  redoes m (Counted n w) h = absurd h
  redoes m (Explained wrong) h = absurd h
  redoes m (Refused why) h = same h.1

  lists : (k : ℕ) (r : Reply) → ListsDependents p k r q → AreAsked q.entries
  lists m (Edited k n) h = absurd h
  lists m (Undone k n) h = absurd h
  lists m (Cascaded ns n) h = absurd h
  lists m (Redone k n) h = absurd h
  lists m (Listed ns) h = same h.1
  lists m (Answered a) h = absurd h
  lists m (Printed t) h = absurd h
  lists m (PrintedFrom n t) h = absurd h
  lists m (Counted n w) h = absurd h
  lists m (Explained wrong) h = absurd h
  lists m (Refused why) h = same h.1

  answers : (x : Query) (r : Reply) → Answers p x r q → AreAsked q.entries
  answers x (Edited k n) h = absurd h
  answers x (Undone k n) h = absurd h
  answers x (Cascaded ns n) h = absurd h
  answers x (Redone k n) h = absurd h
  answers x (Listed ns) h = absurd h
  answers x (Answered a) h = same h.1
  answers x (Printed t) h = absurd h
  answers x (PrintedFrom n t) h = absurd h
  answers x (Counted n w) h = absurd h
  answers x (Explained wrong) h = absurd h
  answers x (Refused why) h = same h.1

  prints : (r : Reply) → Prints p r q → AreAsked q.entries
  prints (Edited k n) h = absurd h
  prints (Undone k n) h = absurd h
  prints (Cascaded ns n) h = absurd h
  prints (Redone k n) h = absurd h
  prints (Listed ns) h = absurd h
  prints (Answered a) h = absurd h
  prints (Printed t) h = same h.1
  prints (PrintedFrom n t) h = absurd h
  prints (Counted n w) h = absurd h
  prints (Explained wrong) h = absurd h
  prints (Refused why) h = same h.1

  prints_history : (r : Reply) → PrintsHistory p r q → AreAsked q.entries
  prints_history (Edited k n) h = absurd h
  prints_history (Undone k n) h = absurd h
  prints_history (Cascaded ns n) h = absurd h
  prints_history (Redone k n) h = absurd h
  prints_history (Listed ns) h = absurd h
  prints_history (Answered a) h = absurd h
  prints_history (Printed t) h = same h.1
  prints_history (PrintedFrom n t) h = absurd h
  prints_history (Counted n w) h = absurd h
  prints_history (Explained wrong) h = absurd h
  prints_history (Refused why) h = same h.1

  prints_from : (k : ℕ) (r : Reply) → PrintsFrom p k r q → AreAsked q.entries
  prints_from m (Edited k n) h = absurd h
  prints_from m (Undone k n) h = absurd h
  prints_from m (Cascaded ns n) h = absurd h
  prints_from m (Redone k n) h = absurd h
  prints_from m (Listed ns) h = absurd h
  prints_from m (Answered a) h = absurd h
  prints_from m (Printed t) h = absurd h
  prints_from m (PrintedFrom n t) h = same h.2
  prints_from m (Counted n w) h = absurd h
  prints_from m (Explained wrong) h = absurd h
  prints_from m (Refused why) h = same h.1

  counts : (r : Reply) → Counts p r q → AreAsked q.entries
  counts (Edited k n) h = absurd h
  counts (Undone k n) h = absurd h
  counts (Cascaded ns n) h = absurd h
  counts (Redone k n) h = absurd h
  counts (Listed ns) h = absurd h
  counts (Answered a) h = absurd h
  counts (Printed t) h = absurd h
  counts (PrintedFrom n t) h = absurd h
  counts (Counted n w) h = same h.2
  counts (Explained wrong) h = absurd h
  counts (Refused why) h = absurd h

  explains : (line : List ℕ) (r : Reply) → Explains p line r q → AreAsked q.entries
  explains line (Edited k n) h = absurd h
  explains line (Undone k n) h = absurd h
  explains line (Cascaded ns n) h = absurd h
  explains line (Redone k n) h = absurd h
  explains line (Listed ns) h = absurd h
  explains line (Answered a) h = absurd h
  explains line (Printed t) h = absurd h
  explains line (PrintedFrom n t) h = absurd h
  explains line (Counted n w) h = absurd h
  explains line (Explained wrong) h = same h.1
  explains line (Refused why) h = same h.1

  -- ---- every line

  step_asked : (x : Request) (r : Reply) → ((e : Edit) → x ≡ Change e → IsAsked e) → Step p x r q → AreAsked q.entries
  step_asked (Change e) r one h = changes e (one e refl) r h
  step_asked (Undo (Some k)) r one h = undoes k r h
  step_asked (Undo None) r one h = undoes_latest r h
  step_asked (Redo k) r one h = redoes k r h
  step_asked (Cascade k) r one h = cascades k r h
  step_asked (Dependents k) r one h = lists k r h
  step_asked (Ask x) r one h = answers x r h
  step_asked Print r one h = prints r h
  step_asked (History None) r one h = prints_history r h
  step_asked (History (Some k)) r one h = prints_from k r h
  step_asked Edits r one h = counts r h
  step_asked (Explain line) r one h = explains line r h

  read_asked : (x : Result Request Refusal) (r : Reply) → ((e : Edit) → x ≡ Ok (Change e) → IsAsked e) → StepIfRead p x r q → AreAsked q.entries
  read_asked (Ok x) r one h = step_asked x r (λ e is. one e (ap Ok is)) h
  read_asked (Err why) r one h = same h.1

pub keeps_asked : KeepsAsked
keeps_asked p q line text h asked = elim h.is_reply [
  | inl s ↦ read_asked p q asked (request line) h.reply (λ e is. (line, is)) s
  | inr none ↦ same p q asked none.1
]
