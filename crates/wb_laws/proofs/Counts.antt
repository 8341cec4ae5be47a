-- Edits of a history write each cell once, so that their counts are sizes of sets.
use Rattle.std.proofs.Common.{◌≡◌, ℕ, zero, suc, Bool, true, false, cond, List, [], ◌∷◌, length, Option, Some, Ok, slice_get, refl, sym, ap, subst, ◌∙◌}
use Rattle.std.specs.FinMap.{empty, get}
use Rattle.std.specs.List.{filter}
use Rattle.selective_undo.specs.Changes.{inverse, AllOnce}
use Rattle.selective_undo.specs.Edit.{EditTree, Trace, outcome, trace, step, written}
use Rattle.selective_undo.specs.History.{Entry, undone, replay, replay_from, traces_from, InForce}
use Rattle.selective_undo.proofs.Changes.{changes-inverse}
use Rattle.wb_cells.specs.Cells.{Cells, Changes, cell_cmp, is_counted, count_of}
use Rattle.wb_cells.specs.WellFormed.{IsWellFormed}
use Rattle.wb_cells.proofs.Empty.{empty_is_well_formed}
use Rattle.wb_edit.specs.declared.edit.Edit as command
use Rattle.wb_edit.specs.Edits.{meaning}
use Rattle.wb_cells.specs.Schema.{workbook}
use Rattle.wb_edit.specs.Edits.{IsValid, ListsOnce}
use Rattle.wb_edit.proofs.EachEdit.{keeps_well_formed, each_cell_once}
use Rattle.wb_log.specs.Past.{Numbered, meant, entry_at, AreValid}
use Rattle.wb_log.specs.Replies.{UndoReply}
use Rattle.wb_laws.specs.Sizes.{HasSize}
use Rattle.wb_laws.specs.Counts.{touched, ListOnce, EditCountLaw, UndoCountLaw, LastCountLaw, RedoCountLaw}
use Rattle.wb_laws.proofs.Sizes.{size_of_changes}

-- ---- what takes changes back

once_inverse : (xs : Changes) (s : Cells) → AllOnce cell_cmp xs → AllOnce cell_cmp (inverse xs s)
once_inverse [] s once = tt
once_inverse (x ∷ xs) s once = (changes-inverse xs s x.cell ∙ once.0, once_inverse xs s once.1)

count_inverse : (xs : Changes) (s : Cells) → count_of (inverse xs s) ≡ count_of xs
count_inverse [] s = refl
count_inverse (x ∷ xs) s = elim (is_counted x.cell) as (λ b. length (cond b (record { cell = x.cell; value = get s x.cell } ∷ filter (λ y. is_counted y.cell) (inverse xs s)) (filter (λ y. is_counted y.cell) (inverse xs s)))
    ≡ length (cond b (x ∷ filter (λ y. is_counted y.cell) xs) (filter (λ y. is_counted y.cell) xs))) [
      | true ↦ ap (λ n. suc n) (count_inverse xs s)
      | false ↦ count_inverse xs s
    ]

-- ---- what an edit of a history does

size_of_trace : (t : Trace workbook) → AllOnce cell_cmp t.before → HasSize (touched t) (count_of t.before)
size_of_trace t once = size_of_changes t.before once

once_traced : (e : command.Edit) (s : Cells) → IsValid e → ListsOnce e → IsWellFormed s → AllOnce cell_cmp (trace {w = workbook} (meaning e) s).before
once_traced e s valid lists h = once_inverse (written (outcome (meaning e) s)) s (each_cell_once e s valid lists h)

well_formed_from : (es : List Numbered) (s : Cells) → AreValid es → IsWellFormed s → IsWellFormed (replay_from (meant es) s)
well_formed_from [] s valid h = h
well_formed_from (x ∷ es) s valid h =
    elim x.in_force as (λ b. IsWellFormed (replay_from (entry_at x.edit b ∷ meant es) s)) [
      | true ↦ well_formed_from es (step (meaning x.edit) s) valid.1 (keeps_well_formed x.edit s valid.0 h)
      | false ↦ well_formed_from es s valid.1 h
    ]

well_formed_replay : (es : List Numbered) → AreValid es → IsWellFormed (replay (meant es))
well_formed_replay es valid = well_formed_from es empty valid empty_is_well_formed

same_trace : (t u : Trace workbook) → Some (Some t) ≡ Some (Some u) → t ≡ u
same_trace t u e = cc

same_undone : (e f : EditTree workbook) → ◌≡◌ {A = Option (Entry workbook)} (Some (undone e)) (Some (undone f)) → e ≡ f
same_undone e f is = cc

-- an edit in force wrote each cell once: the first one, or one of the others, by what holds of these from any workbook on
once_at : (x : Numbered) (es : List Numbered) (s : Cells) → IsValid x.edit → ListsOnce x.edit → IsWellFormed s → (t : Trace workbook)
    → ((u : Cells) → IsWellFormed u → (k : ℕ) → InForce (traces_from (meant es) u) k t → AllOnce cell_cmp t.before)
    → (b : Bool) (k : ℕ) → InForce (traces_from (entry_at x.edit b ∷ meant es) s) k t → AllOnce cell_cmp t.before
once_at x es s valid lists h t rest true zero e =
    subst (λ (u : Trace workbook). AllOnce cell_cmp u.before) (same_trace (trace (meaning x.edit) s) t e) (once_traced x.edit s valid lists h)
once_at x es s valid lists h t rest true (suc j) e = rest (step (meaning x.edit) s) (keeps_well_formed x.edit s valid h) j e
once_at x es s valid lists h t rest false zero e = cc
once_at x es s valid lists h t rest false (suc j) e = rest s h j e

once_in_force : (es : List Numbered) (s : Cells) → AreValid es → ListOnce es → IsWellFormed s → (k : ℕ) (t : Trace workbook) →
    InForce (traces_from (meant es) s) k t → AllOnce cell_cmp t.before
once_in_force [] s valid lists h k t there = cc
once_in_force (x ∷ es) s valid lists h k t there =
    once_at x es s valid.0 lists.0 h t (λ u g j e. once_in_force es u valid.1 lists.1 g j t e) x.in_force k there

-- an edit out of force is a valid command
abbrev IsCommand : EditTree workbook → Type 0
IsCommand e = (c : command.Edit) × (meaning c ≡ e) × IsValid c × ListsOnce c

command_first : (x : Numbered) (es : List Numbered) (e : EditTree workbook) → IsValid x.edit → ListsOnce x.edit →
    ((j : ℕ) → slice_get (meant es) j ≡ Some (undone e) → IsCommand e)
    → (b : Bool) (k : ℕ) → slice_get (entry_at x.edit b ∷ meant es) k ≡ Some (undone e) → IsCommand e
command_first x es e valid lists rest false zero is = (x.edit, same_undone (meaning x.edit) e is, valid, lists)
command_first x es e valid lists rest true zero is = cc
command_first x es e valid lists rest b (suc j) is = rest j is

command_at : (es : List Numbered) (k : ℕ) (e : EditTree workbook) → AreValid es → ListOnce es → slice_get (meant es) k ≡ Some (undone e) → IsCommand e
command_at [] k e valid lists is = cc
command_at (x ∷ es) k e valid lists is =
    command_first x es e valid.0 lists.0 (λ j there. command_at es j e valid.1 lists.1 there) x.in_force k is

-- ---- the laws

pub edit_count_law : EditCountLaw
edit_count_law es e number n valid v lists reply =
    let s : Cells = replay (meant es) in
    let count : count_of (inverse (written (outcome (meaning e) s)) s) ≡ n =
    count_inverse (written (outcome (meaning e) s)) s ∙ ap (λ o. count_of (written o)) reply.1.1 ∙ sym reply.1.2 in
    subst (HasSize (touched (trace (meaning e) s))) count
    (size_of_trace (trace (meaning e) s) (once_traced e s v lists (well_formed_replay es valid)))

pub undo_count_law : UndoCountLaw
undo_count_law es k n t valid lists reply there =
    let same : reply.0 ≡ t = same_trace reply.0 t (sym reply.1.in_force ∙ there) in
    subst (HasSize (touched t)) (ap (λ (u : Trace workbook). count_of u.before) (sym same) ∙ sym reply.2)
    (size_of_trace t (once_in_force es empty valid lists empty_is_well_formed k t there))

pub last_count_law : LastCountLaw
last_count_law es k n t valid lists reply there =
    let same : reply.0 ≡ k = cc in
    undo_count_law es k n t valid lists (subst (λ j. UndoReply (meant es) j (Ok n)) same reply.3) there

pub redo_count_law : RedoCountLaw
redo_count_law es k n e valid lists reply is =
    let s : Cells = replay (meant es) in
    let same : reply.1.edit ≡ e = same_undone reply.1.edit e (sym reply.1.out_of_force ∙ is) in
    let tried : reply.0 ≡ trace e s = sym reply.1.tried ∙ ap (λ f. trace f s) same in
    let c = command_at es k e valid lists is in
    let once : AllOnce cell_cmp (trace e s).before =
    subst (λ (f : EditTree workbook). AllOnce cell_cmp (trace f s).before) c.1 (once_traced c.0 s c.2 c.3 (well_formed_replay es valid)) in
    subst (HasSize (touched (trace e s))) (ap (λ (u : Trace workbook). count_of u.before) (sym tried) ∙ sym reply.2) (size_of_trace (trace e s) once)
