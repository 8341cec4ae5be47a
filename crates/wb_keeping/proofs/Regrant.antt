-- What a step of a logged request says of its grant.
use Rattle.std.proofs.Common.{◌≡◌, ◌≢◌, Bool, true, false, IfOk, Some, Result, Ok, Err, refl, sym, ◌∙◌}
use Rattle.wb_history.proofs.OneAnswer.{edit_answer_law, undo_answer_law, redo_answer_law}
use Rattle.wb_edit.specs.Edits.{meaning}
use Rattle.wb_history.specs.Past.{Past, meant}
use Rattle.wb_edit.specs.declared.refusal.Refusal.{Refusal}
use Rattle.wb_edit.specs.declared.refusal.Refusal.TheVariants.{NoMemory}
use Rattle.wb_requests.specs.declared.requests.request.Request.{Request}
use Rattle.wb_requests.specs.declared.requests.request.Request.TheVariants.{Change, Undo, Redo}
use Rattle.wb_machine.specs.Machine.{Step}
use Rattle.wb_machine.specs.declared.replies.reply.Reply.{Reply}
use Rattle.wb_machine.specs.declared.replies.reply.Reply.TheVariants.{Edited, Undone, Redone, Refused}
use Rattle.wb_keeping.specs.Granting.Granting.{GrantsRequest, IsLogged}

ok_not : {X : Type 0} {x : X} {e : Refusal} → Ok x ≡ Err e → ⊥
ok_not h = cc

no_memory : {X : Type 0} (why : Refusal) → why ≢ NoMemory → ◌≡◌ {A = Result X Refusal} (Err why) (Err NoMemory) → ⊥
no_memory why other h = let same : why ≡ NoMemory = cc in other same

pub never_granted : (p : Past) (asked : Request) (why : Refusal) (q next : Past) → Step p asked (Refused why) q → why ≢ NoMemory →
    GrantsRequest p asked next → ⊥
never_granted p (Change e) why q next step other (k, n, (reply, added)) =
    ok_not (edit_answer_law (meant p.entries) (meaning e) (Ok (k, n)) (Err why) reply step.0 ok_not (no_memory why other))
never_granted p (Undo (Some k)) why q next step other (n, (is, reply, out)) =
    ok_not (undo_answer_law (meant p.entries) k (Ok n) (Err why) reply step.0 ok_not (no_memory why other))
never_granted p (Redo k) why q next step other (n, (is, reply, put)) =
    ok_not (redo_answer_law (meant p.entries) k (Ok n) (Err why) reply step.0 ok_not (no_memory why other))
never_granted p asked why q next step other granted = absurd granted

pub granted : (p : Past) (asked : Request) (r : Reply) (q : Past) → IsLogged asked → Step p asked r q → ((why : Refusal) → r ≡ Refused why → ⊥) →
    GrantsRequest p asked q
granted p (Change e) (Edited k n) q logged step some = (k, n, step)
granted p (Change e) (Refused why) q logged step some = absurd (some why refl)
granted p (Change e) r q logged step some = absurd step
granted p (Undo (Some k)) (Undone j n) q logged step some = (n, (refl, step.1, step.2))
granted p (Undo (Some k)) (Refused why) q logged step some = absurd (some why refl)
granted p (Undo (Some k)) r q logged step some = absurd step
granted p (Redo k) (Redone j n) q logged step some = (n, (refl, step.1, step.2))
granted p (Redo k) (Refused why) q logged step some = absurd (some why refl)
granted p (Redo k) r q logged step some = absurd step
granted p asked r q logged step some = absurd logged

pub refused_true : {E : Type 0} (r : Result Bool E) (p : Past) (asked : Request) (why : Refusal) (q : Past) → IfOk r (λ is. (is ≡ false) × (why ≢ NoMemory)) →
    IfOk r (λ is. is ≡ true → GrantsRequest p asked q)
refused_true (Ok b) p asked why q h = λ yes. let both : true ≡ false = sym yes ∙ h.0 in cc
refused_true (Err e) p asked why q h = tt

pub refused_false : {E : Type 0} (r : Result Bool E) (p : Past) (asked : Request) (why : Refusal) (q : Past) → Step p asked (Refused why) q →
    IfOk r (λ is. (is ≡ false) × (why ≢ NoMemory)) → IfOk r (λ is. is ≡ false → (next : Past) → GrantsRequest p asked next → ⊥)
refused_false (Ok b) p asked why q step h = λ no next granted. never_granted p asked why q next step h.1 granted
refused_false (Err e) p asked why q step h = tt
