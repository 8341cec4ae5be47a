-- At most one kind of answer fits a history and a request.
use Rattle.std.proofs.Common.{◌≡◌, ◌≢◌, ℕ, zero, suc, ◌+◌, List, length, Option, Some, None, Result, Ok, Err, IsOk, slice_get, inl, inr, refl, sym, ap, ◌∙◌}
use Rattle.std.proofs.Common.{subst, arith}
use Rattle.std.specs.FinMap.{empty}
use Rattle.selective_undo.specs.Edit.{EditTree, Trace, trace, outcome}
use Rattle.selective_undo.specs.History.{Entry, done, undone, traces, replay, InForce, IsLast, Blocks, CanUndo, CanRedo}
use Rattle.selective_undo.specs.Log.{Least, BlocksRedo}
use Rattle.selective_undo.proofs.Inverses.{edit_at}
use Rattle.wb_cells.specs.Cells.{Changes, count_of}
use Rattle.wb_cells.specs.Schema.{workbook}
use Rattle.wb_cells.specs.declared.refusal.EditRefusal as command_refusal
use Rattle.wb_edit.specs.declared.refusal.Refusal.{Refusal}
use Rattle.wb_edit.specs.declared.refusal.Refusal.TheVariants.{BadRequest, BadLiteral, Refused, NoSuchEdit, NotInForce, InForce as IsInForce, Blocked}
use Rattle.wb_edit.specs.declared.refusal.Refusal.TheVariants.{RefusedInPlace, NoMemory, StrangePass}
use Rattle.wb_log.specs.Replies.{EditReply, UndoReply, LastReply, RedoReply}
use Rattle.wb_history.specs.ReplyLaws.{EditAnswerLaw, UndoAnswerLaw, LastAnswerLaw, RedoAnswerLaw}

pub none_some : {A : Type 0} {o : Option A} {a : A} → o ≡ None → o ≡ Some a → ⊥
none_some n s = cc

ok_err : {A B : Type 0} {r : Result A B} {b : B} → IsOk r → r ≡ Err b → ⊥
ok_err {r = Ok a} ok e = cc
ok_err {r = Err c} ok e = cc

least_same : (P : ℕ → Type 0) (j i : ℕ) → Least P j → Least P i → j ≡ i
least_same P j i a b = omega (arith, a.least i b.holds, b.least j a.holds)

module _ (es : List (Entry workbook)) (k : ℕ) where
  done_undone : (d e : EditTree workbook) → slice_get es k ≡ Some (done d) → slice_get es k ≡ Some (undone e) → ⊥
  done_undone d e on off = let same : Some (done d) ≡ Some (undone e) = sym on ∙ off in cc

  undone_same : (d e : EditTree workbook) → slice_get es k ≡ Some (undone d) → slice_get es k ≡ Some (undone e) → d ≡ e
  undone_same d e a b = let same : Some (undone d) ≡ Some (undone e) = sym a ∙ b in cc

  traces_same : (t u : Trace workbook) → InForce (traces es) k t → InForce (traces es) k u → t ≡ u
  traces_same t u a b = let same : Some (Some t) ≡ Some (Some u) = sym a ∙ b in cc

  -- ---- undo

  data UndoCause : Type 0 where
    granted : (t : Trace workbook) → CanUndo es k t → UndoCause
    missing : slice_get es k ≡ None → UndoCause
    out : (e : EditTree workbook) → slice_get es k ≡ Some (undone e) → UndoCause
    stuck : (j : ℕ) → Least (λ i. Blocks (traces es) i k) j → UndoCause

  abbrev undo_answer : UndoCause → Result ℕ Refusal
  undo_answer (granted t can) = Ok (count_of t.before)
  undo_answer (missing none) = Err NoSuchEdit
  undo_answer (out e off) = Err NotInForce
  undo_answer (stuck j least) = Err (Blocked (suc j))

  undo_cause : (r : Result ℕ Refusal) → UndoReply es k r → r ≢ Err NoMemory → (c : UndoCause) × (r ≡ undo_answer c)
  undo_cause (Ok n) (t, can, count) memory = (granted t can, ap Ok count)
  undo_cause (Err NoSuchEdit) none memory = (missing none, refl)
  undo_cause (Err NotInForce) (e, off) memory = (out e off, refl)
  undo_cause (Err (Blocked by)) (j, is, least) memory = (stuck j least, ap (λ b. Err (Blocked b)) is)
  undo_cause (Err NoMemory) reply memory = absurd (memory refl)
  undo_cause (Err BadRequest) reply memory = absurd reply
  undo_cause (Err BadLiteral) reply memory = absurd reply
  undo_cause (Err StrangePass) reply memory = absurd reply
  undo_cause (Err (Refused e)) reply memory = absurd reply
  undo_cause (Err IsInForce) reply memory = absurd reply
  undo_cause (Err (RefusedInPlace e)) reply memory = absurd reply

  -- an edit in force stands as done
  on_at : (t : Trace workbook) → InForce (traces es) k t → (e : EditTree workbook) × (slice_get es k ≡ Some (done e))
  on_at t there = let made = edit_at es empty k t there in (made.0, made.1)

  pub granted_missing : (t : Trace workbook) → InForce (traces es) k t → slice_get es k ≡ None → ⊥
  granted_missing t there none = none_some none (on_at t there).1

  pub granted_out : (t : Trace workbook) → InForce (traces es) k t → (e : EditTree workbook) → slice_get es k ≡ Some (undone e) → ⊥
  granted_out t there e off = let on = on_at t there in done_undone on.0 e on.1 off

  undo_same : (c d : UndoCause) → undo_answer c ≡ undo_answer d
  undo_same (granted t can) (granted u may) = ap (λ v. Ok (count_of v.before)) (traces_same t u can.in_force may.in_force)
  undo_same (granted t can) (missing none) = absurd (granted_missing t can.in_force none)
  undo_same (granted t can) (out e off) = absurd (granted_out t can.in_force e off)
  undo_same (granted t can) (stuck j least) = absurd (can.unblocked j least.holds)
  undo_same (missing none) (granted t can) = absurd (granted_missing t can.in_force none)
  undo_same (missing none) (missing same) = refl
  undo_same (missing none) (out e off) = absurd (none_some none off)
  undo_same (missing none) (stuck j least) = absurd (granted_missing least.holds.of_k least.holds.k_in_force none)
  undo_same (out e off) (granted t can) = absurd (granted_out t can.in_force e off)
  undo_same (out e off) (missing none) = absurd (none_some none off)
  undo_same (out e off) (out d same) = refl
  undo_same (out e off) (stuck j least) = absurd (granted_out least.holds.of_k least.holds.k_in_force e off)
  undo_same (stuck j least) (granted t can) = absurd (can.unblocked j least.holds)
  undo_same (stuck j least) (missing none) = absurd (granted_missing least.holds.of_k least.holds.k_in_force none)
  undo_same (stuck j least) (out e off) = absurd (granted_out least.holds.of_k least.holds.k_in_force e off)
  undo_same (stuck j least) (stuck i other) = ap (λ b. Err (Blocked (suc b))) (least_same (λ i. Blocks (traces es) i k) j i least other)

  pub one_undo : (r q : Result ℕ Refusal) → UndoReply es k r → UndoReply es k q → r ≢ Err NoMemory → q ≢ Err NoMemory → r ≡ q
  one_undo r q fits also memory room =
      let c = undo_cause r fits memory in
      let d = undo_cause q also room in
      c.1 ∙ undo_same c.0 d.0 ∙ sym d.1

  -- ---- redo

  data RedoCause : Type 0 where
    regranted : (t : Trace workbook) → CanRedo es k t → RedoCause
    none_there : slice_get es k ≡ None → RedoCause
    on : (e : EditTree workbook) → slice_get es k ≡ Some (done e) → RedoCause
    met : (e : EditTree workbook) → slice_get es k ≡ Some (undone e) → (j : ℕ) → Least (BlocksRedo (traces es) k (trace e (replay es))) j → RedoCause
    refused : (e : EditTree workbook) → slice_get es k ≡ Some (undone e) → (why : command_refusal.EditRefusal) → outcome e (replay es) ≡ Err why →
        ((j : ℕ) → BlocksRedo (traces es) k (trace e (replay es)) j → ⊥) → RedoCause

  abbrev redo_answer : RedoCause → Result ℕ Refusal
  redo_answer (regranted t can) = Ok (count_of t.before)
  redo_answer (none_there none) = Err NoSuchEdit
  redo_answer (on e there) = Err IsInForce
  redo_answer (met e off j least) = Err (Blocked (suc j))
  redo_answer (refused e off why is free) = Err (RefusedInPlace why)

  redo_cause : (r : Result ℕ Refusal) → RedoReply es k r → r ≢ Err NoMemory → (c : RedoCause) × (r ≡ redo_answer c)
  redo_cause (Ok n) (t, can, count) memory = (regranted t can, ap Ok count)
  redo_cause (Err NoSuchEdit) none memory = (none_there none, refl)
  redo_cause (Err IsInForce) (e, there) memory = (on e there, refl)
  redo_cause (Err (Blocked by)) (e, off, (j, is, least)) memory = (met e off j least, ap (λ b. Err (Blocked b)) is)
  redo_cause (Err (RefusedInPlace why)) (e, off, is, free) memory = (refused e off why is free, refl)
  redo_cause (Err NoMemory) reply memory = absurd (memory refl)
  redo_cause (Err BadRequest) reply memory = absurd reply
  redo_cause (Err BadLiteral) reply memory = absurd reply
  redo_cause (Err StrangePass) reply memory = absurd reply
  redo_cause (Err (Refused e)) reply memory = absurd reply
  redo_cause (Err NotInForce) reply memory = absurd reply

  tried_same : (t : Trace workbook) (can : CanRedo es k t) (e : EditTree workbook) → slice_get es k ≡ Some (undone e) → trace e (replay es) ≡ t
  tried_same t can e off = ap (λ d. trace d (replay es)) (undone_same e can.edit off can.out_of_force) ∙ can.tried

  granted_met : (t : Trace workbook) → CanRedo es k t → (e : EditTree workbook) → slice_get es k ≡ Some (undone e) → (j : ℕ) →
      BlocksRedo (traces es) k (trace e (replay es)) j → ⊥
  granted_met t can e off j blocks =
      let b : BlocksRedo (traces es) k t j = subst (λ u. BlocksRedo (traces es) k u j) (tried_same t can e off) blocks in
      elim b.meets [
        | inl need ↦ can.needed_by_none j b.of_j b.later b.j_in_force need
        | inr need ↦ can.needs_none j b.of_j b.later b.j_in_force need
      ]

  granted_refused : (t : Trace workbook) → CanRedo es k t → (e : EditTree workbook) → slice_get es k ≡ Some (undone e) → (why : command_refusal.EditRefusal) →
      outcome e (replay es) ≡ Err why → ⊥
  granted_refused t can e off why is = ok_err can.accepted (ap (λ u. u.outcome) (sym (tried_same t can e off)) ∙ is)

  met_refused : (e d : EditTree workbook) → slice_get es k ≡ Some (undone e) → slice_get es k ≡ Some (undone d) → (j : ℕ) →
      BlocksRedo (traces es) k (trace e (replay es)) j
      → ((j : ℕ) → BlocksRedo (traces es) k (trace d (replay es)) j → ⊥) → ⊥
  met_refused e d a b j blocks free = free j (subst (λ f. BlocksRedo (traces es) k (trace f (replay es)) j) (undone_same e d a b) blocks)

  met_same : (e d : EditTree workbook) → slice_get es k ≡ Some (undone e) → slice_get es k ≡ Some (undone d) → (j i : ℕ) →
      Least (BlocksRedo (traces es) k (trace e (replay es))) j
      → Least (BlocksRedo (traces es) k (trace d (replay es))) i → j ≡ i
  met_same e d a b j i least other =
      least_same (BlocksRedo (traces es) k (trace d (replay es))) j i
      (subst (λ f. Least (BlocksRedo (traces es) k (trace f (replay es))) j) (undone_same e d a b) least) other

  refused_same : (e d : EditTree workbook) → slice_get es k ≡ Some (undone e) → slice_get es k ≡ Some (undone d) → (why other : command_refusal.EditRefusal)
      → outcome e (replay es) ≡ Err why → outcome d (replay es) ≡ Err other → why ≡ other
  refused_same e d a b why other is also =
      let same : Err why ≡ outcome d (replay es) = sym is ∙ ap (λ f. outcome f (replay es)) (undone_same e d a b) in
      let both : Err why ≡ Err other = same ∙ also in
      cc

  redo_same : (c d : RedoCause) → redo_answer c ≡ redo_answer d
  redo_same (regranted t can) (regranted u may) = ap (λ v. Ok (count_of v.before)) (sym (tried_same t can may.edit may.out_of_force) ∙ may.tried)
  redo_same (regranted t can) (none_there none) = absurd (none_some none can.out_of_force)
  redo_same (regranted t can) (on e there) = absurd (done_undone e can.edit there can.out_of_force)
  redo_same (regranted t can) (met e off j least) = absurd (granted_met t can e off j least.holds)
  redo_same (regranted t can) (refused e off why is free) = absurd (granted_refused t can e off why is)
  redo_same (none_there none) (regranted t can) = absurd (none_some none can.out_of_force)
  redo_same (none_there none) (none_there same) = refl
  redo_same (none_there none) (on e there) = absurd (none_some none there)
  redo_same (none_there none) (met e off j least) = absurd (none_some none off)
  redo_same (none_there none) (refused e off why is free) = absurd (none_some none off)
  redo_same (on e there) (regranted t can) = absurd (done_undone e can.edit there can.out_of_force)
  redo_same (on e there) (none_there none) = absurd (none_some none there)
  redo_same (on e there) (on d same) = refl
  redo_same (on e there) (met d off j least) = absurd (done_undone e d there off)
  redo_same (on e there) (refused d off why is free) = absurd (done_undone e d there off)
  redo_same (met e off j least) (regranted t can) = absurd (granted_met t can e off j least.holds)
  redo_same (met e off j least) (none_there none) = absurd (none_some none off)
  redo_same (met e off j least) (on d there) = absurd (done_undone d e there off)
  redo_same (met e off j least) (met d same i other) = ap (λ b. Err (Blocked (suc b))) (met_same e d off same j i least other)
  redo_same (met e off j least) (refused d same why is free) = absurd (met_refused e d off same j least.holds free)
  redo_same (refused e off why is free) (regranted t can) = absurd (granted_refused t can e off why is)
  redo_same (refused e off why is free) (none_there none) = absurd (none_some none off)
  redo_same (refused e off why is free) (on d there) = absurd (done_undone d e there off)
  redo_same (refused e off why is free) (met d same j least) = absurd (met_refused d e same off j least.holds free)
  redo_same (refused e off why is free) (refused d same other also none) = ap (λ w. Err (RefusedInPlace w)) (refused_same e d off same why other is also)

  pub one_redo : (r q : Result ℕ Refusal) → RedoReply es k r → RedoReply es k q → r ≢ Err NoMemory → q ≢ Err NoMemory → r ≡ q
  one_redo r q fits also memory room =
      let c = redo_cause r fits memory in
      let d = redo_cause q also room in
      c.1 ∙ redo_same c.0 d.0 ∙ sym d.1

-- ---- by number

pub undo_answer_law : UndoAnswerLaw
undo_answer_law es zero r q fits also memory room = fits ∙ sym also
undo_answer_law es (suc k) r q fits also memory room = one_undo es k r q fits also memory room

pub redo_answer_law : RedoAnswerLaw
redo_answer_law es zero r q fits also memory room = fits ∙ sym also
redo_answer_law es (suc k) r q fits also memory room = one_redo es k r q fits also memory room

-- ---- the latest

module _ (es : List (Entry workbook)) where
  data LastCause : Type 0 where
    latest : (j n : ℕ) → IsLast (traces es) j → UndoReply es j (Ok n) → LastCause
    none_on : ((j : ℕ) (t : Trace workbook) → InForce (traces es) j t → ⊥) → LastCause

  abbrev last_answer : LastCause → Result (ℕ × ℕ) Refusal
  last_answer (latest j n last back) = Ok (suc j, n)
  last_answer (none_on none) = Err NoSuchEdit

  last_cause : (r : Result (ℕ × ℕ) Refusal) → LastReply es r → r ≢ Err NoMemory → (c : LastCause) × (r ≡ last_answer c)
  last_cause (Ok (k, n)) (j, is, last, back) memory = (latest j n last back, ap (λ m. Ok (m, n)) is)
  last_cause (Err NoSuchEdit) none memory = (none_on none, refl)
  last_cause (Err NoMemory) reply memory = absurd (memory refl)
  last_cause (Err NotInForce) reply memory = absurd reply
  last_cause (Err (Blocked by)) reply memory = absurd reply
  last_cause (Err BadRequest) reply memory = absurd reply
  last_cause (Err BadLiteral) reply memory = absurd reply
  last_cause (Err StrangePass) reply memory = absurd reply
  last_cause (Err (Refused e)) reply memory = absurd reply
  last_cause (Err IsInForce) reply memory = absurd reply
  last_cause (Err (RefusedInPlace e)) reply memory = absurd reply

  counts_same : (j n m : ℕ) → UndoReply es j (Ok n) → UndoReply es j (Ok m) → n ≡ m
  counts_same j n m (t, can, count) (u, may, also) = count ∙ ap (λ v. count_of v.before) (traces_same es j t u can.in_force may.in_force) ∙ sym also

  last_same : (c d : LastCause) → last_answer c ≡ last_answer d
  last_same (latest j n last a) (latest i m also b) =
      let same : j ≡ i = omega (arith, last i b.0 b.1.in_force, also j a.0 a.1.in_force) in
      ap (λ k. Ok (suc k, n)) same ∙ ap (λ k. Ok (suc i, k)) (counts_same i n m (subst (λ k. UndoReply es k (Ok n)) same a) b)
  last_same (latest j n last a) (none_on none) = absurd (none j a.0 a.1.in_force)
  last_same (none_on none) (latest j n last a) = absurd (none j a.0 a.1.in_force)
  last_same (none_on none) (none_on also) = refl

pub last_answer_law : LastAnswerLaw
last_answer_law es r q fits also memory room =
    let c = last_cause es r fits memory in
    let d = last_cause es q also room in
    c.1 ∙ last_same es c.0 d.0 ∙ sym d.1

-- ---- an edit

module _ (es : List (Entry workbook)) (e : EditTree workbook) where
  data EditCause : Type 0 where
    accepted : (xs : Changes) → outcome e (replay es) ≡ Ok xs → EditCause
    denied : (why : command_refusal.EditRefusal) → outcome e (replay es) ≡ Err why → EditCause

  abbrev edit_answer : EditCause → Result (ℕ × ℕ) Refusal
  edit_answer (accepted xs is) = Ok (length es + 1, count_of xs)
  edit_answer (denied why is) = Err (Refused why)

  edit_cause : (r : Result (ℕ × ℕ) Refusal) → EditReply es e r → r ≢ Err NoMemory → (c : EditCause) × (r ≡ edit_answer c)
  edit_cause (Ok (k, n)) (number, (xs, is, count)) memory = (accepted xs is, ap (λ m. Ok (m, n)) number ∙ ap (λ m. Ok (length es + 1, m)) count)
  edit_cause (Err (Refused why)) is memory = (denied why is, refl)
  edit_cause (Err NoMemory) reply memory = absurd (memory refl)
  edit_cause (Err NoSuchEdit) reply memory = absurd reply
  edit_cause (Err NotInForce) reply memory = absurd reply
  edit_cause (Err (Blocked by)) reply memory = absurd reply
  edit_cause (Err BadRequest) reply memory = absurd reply
  edit_cause (Err BadLiteral) reply memory = absurd reply
  edit_cause (Err StrangePass) reply memory = absurd reply
  edit_cause (Err IsInForce) reply memory = absurd reply
  edit_cause (Err (RefusedInPlace e)) reply memory = absurd reply

  edit_same : (c d : EditCause) → edit_answer c ≡ edit_answer d
  edit_same (accepted xs is) (accepted ys also) = let both : Ok xs ≡ Ok ys = sym is ∙ also in let same : xs ≡ ys = cc in
      ap (λ zs. Ok (length es + 1, count_of zs)) same
  edit_same (accepted xs is) (denied why not) = let both : Ok xs ≡ Err why = sym is ∙ not in cc
  edit_same (denied why not) (accepted xs is) = let both : Ok xs ≡ Err why = sym is ∙ not in cc
  edit_same (denied why is) (denied other also) = let both : Err why ≡ Err other = sym is ∙ also in let same : why ≡ other = cc in
      ap (λ w. Err (Refused w)) same

pub edit_answer_law : EditAnswerLaw
edit_answer_law es e r q fits also memory room =
    let c = edit_cause es e r fits memory in
    let d = edit_cause es e q also room in
    c.1 ∙ edit_same es e c.0 d.0 ∙ sym d.1
