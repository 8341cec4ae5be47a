-- An edit that the definitions let be undone may be undone by what is kept.
use Rattle.std.proofs.Common.{◌≡◌, ℕ, ◌+◌, ◌<◌, List, Option, Some, None, option_map, length, slice_get, drop, refl, sym, ap, ◌∙◌, arith, add-one}
use Rattle.std.proofs.lemmas.List.{length-map}
use Rattle.selective_undo.specs.Edit.{Trace}
use Rattle.selective_undo.specs.History.{traces, CanUndo}
use Rattle.selective_undo.specs.Log.{footprint_of, footprints, blocks_undo, first_from}
use Rattle.selective_undo.proofs.Log.{get-map, footprint_there, undo_least}
use Rattle.wb_cells.specs.Cells.{Cells}
use Rattle.wb_cells.specs.Schema.{workbook}
use Rattle.wb_edit.specs.declared.refusal.Refusal.TheVariants.{Blocked}
use Rattle.wb_log.specs.declared.entry.LoggedEdit as kept
use Rattle.wb_log.specs.Cascades.{IsFree}
use Rattle.wb_log.specs.Kept.{kept_in, kept_all, Shows, numbered, numbered_entries, entries_meant, undo_blocker, MayUndo}
use Rattle.wb_log.proofs.Entries.{history-log, kept-log}
use Rattle.wb_log.proofs.Seen.{entry_in}
use Rattle.wb_log.proofs.Whole.{free_in_past}

module _ (s : Cells) (es : List kept.LoggedEdit) (shows : Shows es s) (k : ℕ) where
  same_footprints : kept_all es ≡ footprints (traces (entries_meant es))
  same_footprints = sym (kept-log es) ∙ shows.footprints ∙ ap (λ h. footprints (traces h)) (history-log es)

  none_first : (t : Trace workbook) → CanUndo (entries_meant es) k t → (o : Option ℕ) → first_from (blocks_undo t.before) (k + 2) (drop (k + 1) (kept_all es)) ≡ o →
      option_map Blocked o ≡ None
  none_first t can None first = refl
  none_first t can (Some m) first =
      let found = undo_least (traces (entries_meant es)) k (k + 2) m t can.in_force (rw (← add-one k, ← same_footprints) first) in
      absurd (can.unblocked found.0 found.2.holds)

  kept_there : (t : Trace workbook) → CanUndo (entries_meant es) k t → (x : kept.LoggedEdit) → slice_get es k ≡ Some x → kept_in x ≡ Some (footprint_of t)
  kept_there t can x is =
      let here : slice_get (kept_all es) k ≡ Some (kept_in x) = get-map kept_in es k ∙ ap (option_map kept_in) is in
      let there : slice_get (kept_all es) k ≡ Some (Some (footprint_of t)) =
      ap (λ fs. slice_get fs k) same_footprints ∙ footprint_there (traces (entries_meant es)) k t can.in_force in
      let same : Some (kept_in x) ≡ Some (Some (footprint_of t)) = sym here ∙ there in
      cc

  pub free_here : IsFree (entries_meant es) k → k < length es
  free_here free = omega (arith, free_in_past (numbered_entries es) k free, length-map es numbered)

  pub free_may : IsFree (entries_meant es) k → MayUndo es k None
  free_may (t, can) =
      let (x, is) = entry_in es k (free_here (t, can)) in (
        x,
        is,
        sym (ap (undo_blocker es k) (kept_there t can x is) ∙
            none_first t can (first_from (blocks_undo t.before) (k + 2) (drop (k + 1) (kept_all es))) refl),
      )
