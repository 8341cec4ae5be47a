-- Histories of valid edits, and the well-formed workbooks that they give.
use Rattle.std.proofs.Common.{Result, Err, OnOk, OnErr, ◌≡◌, ℕ, zero, suc, Bool, true, false, List, [], ◌∷◌, ◌++◌, Option, Some, None}
use Rattle.std.proofs.Common.{Ok, slice_get, slice_set, refl, sym, ap, ◌∙◌, subst}
use Rattle.std.specs.FinMap.{empty}
use Rattle.selective_undo.specs.Changes.{apply}
use Rattle.selective_undo.specs.Edit.{outcome, written, step}
use Rattle.selective_undo.specs.History.{replay, replay_from}
use Rattle.wb_cells.specs.Cells.{Cells, Changes, Contents, count_of, saturating_add}
use Rattle.wb_cells.specs.WellFormed.{IsWellFormed}
use Rattle.wb_cells.proofs.Empty.{empty_is_well_formed}
use Rattle.wb_edit.specs.declared.edit.Edit as command
use Rattle.wb_edit.specs.Edits.{meaning, IsValid}
use Rattle.wb_edit.proofs.EachEdit.{keeps_well_formed}
use Rattle.wb_log.specs.declared.entry.LoggedEdit as kept
use Rattle.wb_log.specs.declared.entry.UndoData.{UndoData}
use Rattle.wb_edit.specs.declared.refusal.Refusal.{Refusal}
use Rattle.wb_log.specs.Past.{Numbered, meant, entry_at, set_force, AreValid}
use Rattle.wb_log.specs.Kept.{Shows, numbered_entries, MayUndo, LeavesWellFormed}
use Rattle.wb_log.proofs.Entries.{history-log, taken_kept}

-- ---- valid edits stay valid

pub valid_append : (es : List Numbered) (x : Numbered) → AreValid es → IsValid x.edit → AreValid (es ++ x ∷ [])
valid_append [] x valid v = (v, tt)
valid_append (y ∷ es) x valid v = (valid.0, valid_append es x valid.1 v)

pub valid_force : (b : Bool) (k : ℕ) (es : List Numbered) → AreValid es → AreValid (set_force b k es)
valid_force b k [] valid = tt
valid_force b zero (x ∷ es) valid = valid
valid_force b (suc k) (x ∷ es) valid = (valid.0, valid_force b k es valid.1)

valid_at : (es : List kept.LoggedEdit) (k : ℕ) (x : kept.LoggedEdit) → AreValid (numbered_entries es) → slice_get es k ≡ Some x → IsValid x.edit
valid_at [] k x valid is = cc
valid_at (y ∷ es) zero x valid is = let h : y ≡ x = cc in subst (λ z. IsValid z.edit) h valid.0
valid_at (y ∷ es) (suc k) x valid is = valid_at es k x valid.1 is

valid_put : (es : List kept.LoggedEdit) (k : ℕ) (x : kept.LoggedEdit) (o : Option UndoData) → AreValid (numbered_entries es) → IsValid x.edit →
    AreValid (numbered_entries (slice_set es k (record { edit = x.edit; kept = o })))
valid_put [] k x o valid v = tt
valid_put (y ∷ es) zero x o valid v = (v, valid.1)
valid_put (y ∷ es) (suc k) x o valid v = (valid.0, valid_put es k x o valid.1 v)

-- ---- the replay of valid edits is well formed

replay_kept : (es : List Numbered) (s : Cells) → AreValid es → IsWellFormed s → IsWellFormed (replay_from (meant es) s)
replay_kept [] s valid h = h
replay_kept (x ∷ es) s valid h =
    elim x.in_force as (λ b. IsWellFormed (replay_from (entry_at x.edit b ∷ meant es) s)) [
      | true ↦ replay_kept es (step (meaning x.edit) s) valid.1 (keeps_well_formed x.edit s valid.0 h)
      | false ↦ replay_kept es s valid.1 h
    ]

pub well_formed : (es : List kept.LoggedEdit) (s : Cells) → Shows es s → AreValid (numbered_entries es) → IsWellFormed s
well_formed es s shows valid =
    subst IsWellFormed (sym (shows.shown ∙ ap replay (history-log es))) (replay_kept (numbered_entries es) empty valid empty_is_well_formed)

-- an edit that is accepted leaves a well-formed workbook
pub planned_well_formed : (es : List kept.LoggedEdit) (s : Cells) (e : command.Edit) (xs : Changes) → Shows es s → AreValid (numbered_entries es) → IsValid e →
    outcome (meaning e) s ≡ Ok xs → IsWellFormed (apply xs s)
planned_well_formed es s e xs shows valid v accepted =
    subst (λ o. IsWellFormed (apply (written o) s)) accepted (keeps_well_formed e s v (well_formed es s shows valid))

pub planned_again_well_formed : (es : List kept.LoggedEdit) (s : Cells) (k : ℕ) (x : kept.LoggedEdit) (xs : Changes) → Shows es s → AreValid (numbered_entries es) →
    slice_get es k ≡ Some x → outcome (meaning x.edit) s ≡ Ok xs → IsWellFormed (apply xs s)
planned_again_well_formed es s k x xs shows valid is accepted = planned_well_formed es s x.edit xs shows valid (valid_at es k x valid is) accepted

-- so does an undo that may be made
pub undone_well_formed : (es : List kept.LoggedEdit) (s : Cells) (k : ℕ) (x : kept.LoggedEdit) → Shows es s → AreValid (numbered_entries es) → slice_get es k ≡ Some x →
    MayUndo es k None → LeavesWellFormed x s
undone_well_formed es s k x shows valid is may q has =
    let b : Contents = record { cells = s; writes = 0 } in
    let d : Contents = record { cells = apply q.inverse s; writes = saturating_add 0 (count_of q.inverse) } in
    let y : kept.LoggedEdit = record { edit = x.edit; kept = None } in
    let shows_after = taken_kept es k x is (count_of q.inverse) y b d shows may (q, has, refl, refl, refl, refl) in
    well_formed (slice_set es k y) (apply q.inverse s) shows_after (valid_put es k x None valid (valid_at es k x valid is))

-- ---- what a history keeps

pub keeps_valid : {X : Type 0} (b : Bool) (k : ℕ) (es fs : List kept.LoggedEdit) (r : Result X Refusal) → AreValid (numbered_entries es) →
    OnOk r (numbered_entries fs ≡ set_force b k (numbered_entries es)) → OnErr r (numbered_entries fs ≡ numbered_entries es) → AreValid (numbered_entries fs)
keeps_valid b k es fs (Ok n) valid ok stays = subst AreValid (sym ok) (valid_force b k (numbered_entries es) valid)
keeps_valid b k es fs (Err why) valid ok stays = subst AreValid (sym stays) valid
