-- What a granted undo or redo leaves.
use Rattle.std.proofs.Common.{◌≡◌, ℕ, zero, suc, ◌-◌, true, false, List, [], ◌∷◌, Some, Result, Ok, Err, OnOk, IfOk, slice_set, refl, sym, ap, ◌∙◌, subst}
use Rattle.std.proofs.Common.{arith}
use Rattle.selective_undo.specs.Edit.{EditTree, trace}
use Rattle.selective_undo.specs.History.{Entry, undone, undo, redo, traces, replay, IsLegal}
use Rattle.selective_undo.proofs.Inverses.{set_back_law, last_law}
use Rattle.selective_undo.proofs.Redo.{redo_law}
use Rattle.selective_undo.proofs.Undo.{undo_law}
use Rattle.wb_cells.specs.Cells.{Cells}
use Rattle.wb_cells.specs.Schema.{workbook}
use Rattle.wb_log.specs.declared.entry.LoggedEdit as kept
use Rattle.wb_edit.specs.declared.refusal.Refusal.{Refusal}
use Rattle.wb_log.specs.Past.{Numbered, meant, entry_at, out_of_force, into_force}
use Rattle.wb_log.specs.Replies.{UndoReply, LastReply, RedoReply, SetsBack, LeavesOthers, Restores, RedoesInPlace}
use Rattle.wb_log.specs.Kept.{Shows, numbered_entries, entries_meant}
use Rattle.wb_log.proofs.Entries.{history-log}

pub undo_meant : (k : ℕ) (es : List Numbered) → undo k (meant es) ≡ meant (out_of_force k es)
undo_meant k [] = refl
undo_meant zero (x ∷ es) = elim x.in_force as (λ b. undo zero (entry_at x.edit b ∷ meant es) ≡ entry_at x.edit false ∷ meant es) [ true ↦ refl | false ↦ refl ]
undo_meant (suc k) (x ∷ es) = ap (λ h. entry_at x.edit x.in_force ∷ h) (undo_meant k es)

pub redo_meant : (k : ℕ) (es : List Numbered) → redo k (meant es) ≡ meant (into_force k es)
redo_meant k [] = refl
redo_meant zero (x ∷ es) = elim x.in_force as (λ b. redo zero (entry_at x.edit b ∷ meant es) ≡ entry_at x.edit true ∷ meant es) [ true ↦ refl | false ↦ refl ]
redo_meant (suc k) (x ∷ es) = ap (λ h. entry_at x.edit x.in_force ∷ h) (redo_meant k es)

module _ (s : Cells) (es : List kept.LoggedEdit) (fs : List Numbered) (shows : Shows es s) where
  legal : IsLegal (entries_meant es)
  legal = subst IsLegal (history-log es) shows.legal

  pub sets_back : (k : ℕ) (r : Result ℕ Refusal) → UndoReply (entries_meant es) k r → OnOk r (fs ≡ out_of_force k (numbered_entries es)) →
      OnOk r (SetsBack (entries_meant es) k (meant fs))
  sets_back k (Ok n) (t, can, count) is = λ u there c.
      let P : List (Entry workbook) → Type 0 = λ h. SetsBack (entries_meant es) k h in
      let law : SetsBack (entries_meant es) k (undo k (entries_meant es)) =
      λ u there c. set_back_law workbook (entries_meant es) k u c legal (record { in_force = there; unblocked = can.unblocked }) in
      subst P (undo_meant k (numbered_entries es) ∙ sym (ap meant is)) law u there c
  sets_back k (Err why) reply is = tt

  pub leaves_others : (k : ℕ) (r : Result ℕ Refusal) → UndoReply (entries_meant es) k r → OnOk r (fs ≡ out_of_force k (numbered_entries es)) →
      OnOk r (LeavesOthers (entries_meant es) k (meant fs))
  leaves_others k (Ok n) (t, can, count) is = ap traces (ap meant is ∙ sym (undo_meant k (numbered_entries es))) ∙
      (undo_law workbook (entries_meant es) k t legal can).same_traces
  leaves_others k (Err why) reply is = tt

  pub restores : (r : Result (ℕ × ℕ) Refusal) → LastReply (entries_meant es) r →
      IfOk r (λ q. fs ≡ out_of_force (q.0 - 1) (numbered_entries es)) → IfOk r (λ q. Restores (entries_meant es) (q.0 - 1) (meant fs))
  restores (Ok (number, n)) (j, is_number, last, (t, can, count)) is =
      let here : number - 1 ≡ j = omega (arith, is_number) in
      let law = (last_law workbook (entries_meant es) j t can.in_force last).1 in
      subst (λ k. fs ≡ out_of_force k (numbered_entries es) → Restores (entries_meant es) k (meant fs)) (sym here)
      (λ now. ap (λ ns. replay (meant ns)) now ∙ ap replay (sym (undo_meant j (numbered_entries es))) ∙ law) is
  restores (Err why) reply is = tt

  pub redoes_in_place : (k : ℕ) (r : Result ℕ Refusal) → RedoReply (entries_meant es) k r → OnOk r (fs ≡ into_force k (numbered_entries es)) →
      OnOk r (RedoesInPlace (entries_meant es) k (meant fs))
  redoes_in_place k (Ok n) (t, can, count) is = λ e out.
      let law = (redo_law workbook (entries_meant es) k t legal can).same_traces in
      let same : can.edit ≡ e = same_edit (sym can.out_of_force ∙ out) in
      ap traces (ap meant is ∙ sym (redo_meant k (numbered_entries es))) ∙ law ∙
      ap (λ u. slice_set (traces (entries_meant es)) k (Some u)) (sym can.tried ∙ ap (λ d. trace d (replay (entries_meant es))) same)
    where
      same_edit : {d e : EditTree workbook} → Some (undone d) ≡ Some (undone e) → d ≡ e
      same_edit h = cc
  redoes_in_place k (Err why) reply is = tt
