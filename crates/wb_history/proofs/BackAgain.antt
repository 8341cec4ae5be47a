-- Undo and redo, one directly after the other, by their answers.
use Rattle.std.proofs.Common.{◌≡◌, ◌≢◌, ℕ, zero, suc, ◌-◌, Bool, true, false, List, [], ◌∷◌, Some, Result, Ok, Err, slice_get, refl, sym, ap, ◌∙◌, subst, arith}
use Rattle.selective_undo.specs.Edit.{EditTree}
use Rattle.selective_undo.specs.History.{done, undone, undo, redo, IsLegal, CanUndo, CanRedo}
use Rattle.std.specs.FinMap.{empty}
use Rattle.selective_undo.proofs.Inverses.{edit_at, undo_after_redo_law, redo_after_undo_law, redo_back_law}
use Rattle.wb_cells.specs.Cells.{count_of}
use Rattle.wb_cells.specs.Schema.{workbook}
use Rattle.wb_edit.specs.declared.edit.Edit as command
use Rattle.wb_edit.specs.declared.refusal.Refusal.{Refusal}
use Rattle.wb_edit.specs.declared.refusal.Refusal.TheVariants.{NoMemory}
use Rattle.wb_log.specs.Past.{Numbered, meant, entry_at, out_of_force, into_force}
use Rattle.wb_log.specs.Replies.{UndoReply, LastReply, RedoReply}
use Rattle.wb_history.specs.ReplyLaws.{UndoAfterRedoAnswerLaw, RedoAfterLastAnswerLaw, RedoBackAnswerLaw}
use Rattle.wb_log.proofs.Granted.{undo_meant, redo_meant}
use Rattle.wb_history.proofs.OneAnswer.{one_undo, one_redo}

not_done : (e : command.Edit) (b : Bool) (d : EditTree workbook) → Some (entry_at e b) ≡ Some (undone d) → b ≡ false
not_done e true d is = cc
not_done e false d is = refl

not_undone : (e : command.Edit) (b : Bool) (d : EditTree workbook) → Some (entry_at e b) ≡ Some (done d) → b ≡ true
not_undone e true d is = refl
not_undone e false d is = cc

-- an edit out of force that is put in force and taken out again
out_again : (es : List Numbered) (k : ℕ) (d : EditTree workbook) → slice_get (meant es) k ≡ Some (undone d) → out_of_force k (into_force k es) ≡ es
out_again [] k d is = refl
out_again (x ∷ es) zero d is = ap (λ b. record { edit = x.edit; in_force = b } ∷ es) (sym (not_done x.edit x.in_force d is))
out_again (x ∷ es) (suc k) d is = ap (λ r. x ∷ r) (out_again es k d is)

-- an edit in force that is taken out and put in force again
in_again : (es : List Numbered) (k : ℕ) (d : EditTree workbook) → slice_get (meant es) k ≡ Some (done d) → into_force k (out_of_force k es) ≡ es
in_again [] k d is = refl
in_again (x ∷ es) zero d is = ap (λ b. record { edit = x.edit; in_force = b } ∷ es) (sym (not_undone x.edit x.in_force d is))
in_again (x ∷ es) (suc k) d is = ap (λ r. x ∷ r) (in_again es k d is)

ok_not_err : {n : ℕ} {E : Type 0} {e : E} → Ok n ≡ Err e → ⊥
ok_not_err h = cc

undo_again : (es : List Numbered) (k n : ℕ) (r : Result ℕ Refusal) → IsLegal (meant es) → RedoReply (meant es) k (Ok n) →
    UndoReply (meant (into_force k es)) k r
    → (r ≢ Err NoMemory → r ≡ Ok n) × (out_of_force k (into_force k es) ≡ es)
undo_again es k n r legal (t, can, count) fits =
    let may : CanUndo (redo k (meant es)) k t = (undo_after_redo_law workbook (meant es) k t legal can).0 in
    let due : UndoReply (meant (into_force k es)) k (Ok n) = (t, subst (λ h. CanUndo h k t) (redo_meant k es) may, count) in
    (λ room. one_undo (meant (into_force k es)) k r (Ok n) fits due room (λ h. ok_not_err h), out_again es k can.edit can.out_of_force)

pub undo_after_redo_answer_law : UndoAfterRedoAnswerLaw
undo_after_redo_answer_law es zero n r legal redone fits = absurd (ok_not_err redone)
undo_after_redo_answer_law es (suc k) n r legal redone fits =
    let here : k ≡ suc k - 1 = omega arith in
    let P : ℕ → Type 0 = λ m. UndoReply (meant (into_force m es)) k r → (r ≢ Err NoMemory → r ≡ Ok n) × (out_of_force m (into_force m es) ≡ es) in
    subst P here (λ f. undo_again es k n r legal redone f) fits

redo_again : (es : List Numbered) (k n : ℕ) (r : Result ℕ Refusal) → IsLegal (meant es) → LastReply (meant es) (Ok (suc k, n)) →
    RedoReply (meant (out_of_force k es)) k r
    → (r ≢ Err NoMemory → r ≡ Ok n) × (into_force k (out_of_force k es) ≡ es)
redo_again es k n r legal (j, is, last, (t, can, count)) fits =
    let here : j ≡ k = omega (arith, is) in
    let P : ℕ → Type 0 = λ m. RedoReply (meant (out_of_force m es)) m r → (r ≢ Err NoMemory → r ≡ Ok n) × (into_force m (out_of_force m es) ≡ es) in
    subst P here (λ f.
    let may : CanRedo (undo j (meant es)) j t = (redo_after_undo_law workbook (meant es) j t legal can.in_force last).0 in
    let due : RedoReply (meant (out_of_force j es)) j (Ok n) = (t, subst (λ h. CanRedo h j t) (undo_meant j es) may, count) in
    let made = edit_at (meant es) empty j t can.in_force in
    (λ room. one_redo (meant (out_of_force j es)) j r (Ok n) f due room (λ h. ok_not_err h), in_again es j made.0 made.1)) fits

pub redo_after_last_answer_law : RedoAfterLastAnswerLaw
redo_after_last_answer_law es zero n r legal (j, is, last, back) fits = absurd (omega (arith, is))
redo_after_last_answer_law es (suc k) n r legal back fits =
    let here : k ≡ suc k - 1 = omega arith in
    let P : ℕ → Type 0 = λ m. RedoReply (meant (out_of_force m es)) k r → (r ≢ Err NoMemory → r ≡ Ok n) × (into_force m (out_of_force m es) ≡ es) in
    subst P here (λ f. redo_again es k n r legal back f) fits

back_again : (es : List Numbered) (k n m : ℕ) → IsLegal (meant es) → UndoReply (meant es) k (Ok n) → RedoReply (meant (out_of_force k es)) k (Ok m)
    → (m ≡ n) × (into_force k (out_of_force k es) ≡ es)
back_again es k n m legal (t, can, count) (u, may, also) =
    let same : u ≡ t = (redo_back_law workbook (meant es) k t u legal can (subst (λ h. CanRedo h k u) (sym (undo_meant k es)) may)).1 in
    let made = edit_at (meant es) empty k t can.in_force in
    (also ∙ ap (λ v. count_of v.before) same ∙ sym count, in_again es k made.0 made.1)

pub redo_back_answer_law : RedoBackAnswerLaw
redo_back_answer_law es zero n m legal back redone = absurd (ok_not_err back)
redo_back_answer_law es (suc k) n m legal back redone =
    let here : k ≡ suc k - 1 = omega arith in
    let P : ℕ → Type 0 = λ p. RedoReply (meant (out_of_force p es)) k (Ok m) → (m ≡ n) × (into_force p (out_of_force p es) ≡ es) in
    subst P here (λ f. back_again es k n m legal back f) redone
