-- A redo over the entries of the code.
use Rattle.std.proofs.Common.{if◌then◌else◌, ◌≡◌, ℕ, zero, suc, ◌+◌, ◌-◌, Bool, true, false, List, [], ◌∷◌, map, length, drop, refl, sym, ap, ◌∙◌, subst}
use Rattle.std.proofs.Common.{Option, Some, None, is_some, option_map, Ok, Err, slice_get, slice_set, arith, add-one}
use Rattle.std.specs.FinMap.{get}
use Rattle.std.specs.List.{filter}
use Rattle.selective_undo.specs.Changes.{apply, inverse}
use Rattle.selective_undo.specs.Edit.{outcome, reads, written, trace}
use Rattle.selective_undo.specs.History.{Entry, undone, traces, replay, CanRedo}
use Rattle.selective_undo.specs.Log.{IsKept, Least, history, footprint_of, footprints, planned, blocks_redo, first_from, BlocksRedo}
use Rattle.selective_undo.proofs.Log.{get-map, set-map, kept_redo, redo_can, redo_free, redo_least, first_planned}
use Rattle.wb_log.proofs.Entries.{history-log, kept-log, log_at}
use Rattle.wb_cells.specs.declared.cells.pattern.Pattern.{Pattern}
use Rattle.wb_cells.specs.Cells.{Cells, Changes, count_of, is_counted}
use Rattle.wb_cells.specs.Schema.{workbook}
use Rattle.wb_edit.specs.Edits.{meaning}
use Rattle.wb_edit.specs.Plans.{IsPlan}
use Rattle.wb_cells.specs.declared.refusal.EditRefusal as command_refusal
use Rattle.wb_edit.specs.declared.planning.PlanErr.{PlanErr}
use Rattle.wb_edit.specs.declared.planning.PlanErr.TheVariants.{Refused as PlanRefused, NoMemory as PlanNoMemory}
use Rattle.wb_log.specs.declared.entry.LoggedEdit as kept
use Rattle.wb_log.specs.declared.entry.UndoData.{UndoData}
use Rattle.wb_edit.specs.declared.refusal.Refusal.TheVariants.{InForce, Blocked, RefusedInPlace, NoMemory}
use Rattle.wb_log.specs.Past.{entry_at, into_force}
use Rattle.wb_log.specs.Replies.{RedoReply}
use Rattle.wb_log.specs.Kept.{footprint, kept_all, logged, log, Shows, numbered, numbered_entries, entries_meant, redo_blocker, in_place, stopped_refusal}
use Rattle.wb_log.specs.Kept.{PlansAgain}

abbrev counted : Changes → Changes
counted xs = filter (λ x. is_counted x.cell) xs

-- as many cells are set back as were set
count_inverse : (xs : Changes) (s : Cells) → count_of (inverse xs s) ≡ count_of xs
count_inverse [] s = refl
count_inverse (x ∷ xs) s =
    elim (is_counted x.cell) as (λ b. length (if b then record { cell = x.cell; value = get s x.cell } ∷ counted (inverse xs s) else counted (inverse xs s)) ≡
    length (if b then x ∷ counted xs else counted xs)) [
      | true ↦ ap suc (count_inverse xs s)
      | false ↦ count_inverse xs s
    ]

in_numbers : (es : List kept.LoggedEdit) (k : ℕ) (x : kept.LoggedEdit) (q : UndoData) → slice_get es k ≡ Some x →
    numbered_entries (slice_set es k (record { edit = x.edit; kept = Some q })) ≡ into_force k (numbered_entries es)
in_numbers [] k x q is = refl
in_numbers (z ∷ es) zero x q is = let h : z ≡ x = cc in ap (λ y. record { edit = y.edit; in_force = true } ∷ numbered_entries es) (sym h)
in_numbers (z ∷ es) (suc k) x q is = ap (λ ns. numbered z ∷ ns) (in_numbers es k x q is)

module _ (s : Cells) (es : List kept.LoggedEdit) (k : ℕ) (x : kept.LoggedEdit) (shows : Shows es s) (is : slice_get es k ≡ Some x) where
  meant_at : slice_get (entries_meant es) k ≡ Some (entry_at x.edit (is_some x.kept))
  meant_at = get-map (λ y. entry_at y.edit y.in_force) (numbered_entries es) k ∙
      ap (option_map (λ y. entry_at y.edit y.in_force)) (get-map numbered es k ∙ ap (option_map numbered) is)

  pub in_force_reply : is_some x.kept ≡ true → RedoReply (entries_meant es) k (Err InForce)
  in_force_reply on = (meaning x.edit, meant_at ∙ ap (λ b. Some (entry_at x.edit b)) on)

  module _ (off : x.kept ≡ None) where
    out_at : slice_get (entries_meant es) k ≡ Some (undone (meaning x.edit))
    out_at = meant_at ∙ ap (λ o. Some (entry_at x.edit (is_some o))) off

    -- memory may run out
    pub memory_reply : RedoReply (entries_meant es) k (Err NoMemory)
    memory_reply = (meaning x.edit, out_at)

    log_out : slice_get (log es) k ≡ Some (record { edit = meaning x.edit; kept = None })
    log_out = log_at es k x is ∙ ap (λ o. Some (record { edit = meaning x.edit; kept = option_map (λ k. footprint k.footprint k.inverse) o })) off

    -- the first that a plan meets, among the traces
    first_is : (o : Option ℕ) → redo_blocker es k (reads (meaning x.edit) s) (written (outcome (meaning x.edit) s)) ≡ o
        → first_from (blocks_redo (footprint_of (trace (meaning x.edit) s))) (k + 2) (drop (suc k) (footprints (traces (history (log es))))) ≡ o
    first_is o found =
        let e = meaning x.edit in
        let same : footprints (traces (history (log es))) ≡ kept_all es = sym shows.footprints ∙ kept-log es in
        let planned_first : first_from (blocks_redo (planned e s)) (k + 2) (drop (suc k) (kept_all es)) ≡ o = rw (← add-one k) found in
        ap (λ fs. first_from (blocks_redo (footprint_of (trace e s))) (k + 2) (drop (suc k) fs)) same ∙
        sym (first_planned e s (k + 2) (drop (suc k) (kept_all es))) ∙ planned_first

    pub met_reply : (m : ℕ) → redo_blocker es k (reads (meaning x.edit) s) (written (outcome (meaning x.edit) s)) ≡ Some m →
        RedoReply (entries_meant es) k (Err (Blocked m))
    met_reply m found =
        let least = redo_least (traces (history (log es))) k (k + 2) m (trace (meaning x.edit) s) (first_is (Some m) found) in
        let P : List (Entry workbook) → Type 0 = λ h. Least (BlocksRedo (traces h) k (trace (meaning x.edit) (replay h))) least.0 in (
          meaning x.edit,
          out_at,
          (
            least.0,
            omega (arith, least.1),
            subst P (history-log es)
                (subst (λ u. Least (BlocksRedo (traces (history (log es))) k (trace (meaning x.edit) u)) least.0) shows.shown least.2),
          ),
        )

    pub in_place_reply : (why : command_refusal.EditRefusal) → outcome (meaning x.edit) s ≡ Err why →
        redo_blocker es k (reads (meaning x.edit) s) (written (outcome (meaning x.edit) s)) ≡ None → RedoReply (entries_meant es) k (Err (RefusedInPlace why))
    in_place_reply why refused none =
        let free = redo_free (traces (history (log es))) k (k + 2) (trace (meaning x.edit) s) (first_is None none) in
        let P : List (Entry workbook) → Type 0 = λ h. (j : ℕ) → BlocksRedo (traces h) k (trace (meaning x.edit) (replay h)) j → ⊥ in (
          meaning x.edit,
          out_at,
          ap (outcome (meaning x.edit)) (sym (shows.shown ∙ ap replay (history-log es))) ∙ refused,
          subst P (history-log es) (subst (λ u. (j : ℕ) → BlocksRedo (traces (history (log es))) k (trace (meaning x.edit) u) j → ⊥) shows.shown free),
        )

    pub stopped_reply : (stop : PlanErr) → IsPlan (meaning x.edit) s (Err stop) → RedoReply (entries_meant es) k (Err (stopped_refusal es k stop))
    stopped_reply PlanNoMemory plan = memory_reply
    stopped_reply (PlanRefused why rs) plan =
        let same : redo_blocker es k (reads (meaning x.edit) s) (written (outcome (meaning x.edit) s)) ≡ redo_blocker es k rs [] =
        ap (λ o. redo_blocker es k (reads (meaning x.edit) s) (written o)) plan.0 ∙ ap (λ ps. redo_blocker es k ps []) (sym plan.1) in
        elim (redo_blocker es k rs []) as (λ o. redo_blocker es k rs [] ≡ o → RedoReply (entries_meant es) k (Err (in_place o why))) [
          | Some m ↦ λ found. met_reply m (same ∙ found)
          | None ↦ λ none. in_place_reply why plan.0 (same ∙ none)
        ] refl

    pub blocked_plan : (xs : Changes) (rs : List Pattern) (m : ℕ) → outcome (meaning x.edit) s ≡ Ok xs → rs ≡ reads (meaning x.edit) s →
        Some m ≡ redo_blocker es k rs xs → RedoReply (entries_meant es) k (Err (Blocked m))
    blocked_plan xs rs m accepted read found =
        met_reply m (ap (λ o. redo_blocker es k (reads (meaning x.edit) s) (written o)) accepted ∙ ap (λ ps. redo_blocker es k ps xs) (sym read) ∙ sym found)

    -- ---- the edit is put in

    none_now : (xs : Changes) (rs : List Pattern) → outcome (meaning x.edit) s ≡ Ok xs → rs ≡ reads (meaning x.edit) s → redo_blocker es k rs xs ≡ None
        → first_from (blocks_redo (planned (meaning x.edit) s)) (k + 2) (drop (suc k) (map (λ x. x.kept) (log es))) ≡ None
    none_now xs rs accepted read none = rw (kept-log es, ← add-one k)
        (ap (λ o. redo_blocker es k (reads (meaning x.edit) s) (written o)) accepted ∙ ap (λ ps. redo_blocker es k ps xs) (sym read) ∙ none)

    pub put_kept : (xs : Changes) (rs : List Pattern) → outcome (meaning x.edit) s ≡ Ok xs → rs ≡ reads (meaning x.edit) s → redo_blocker es k rs xs ≡ None
        → Shows (slice_set es k (record { edit = x.edit; kept = Some (record { footprint = rs; inverse = inverse xs s }) })) (apply xs s)
    put_kept xs rs accepted read none =
        let after = kept_redo s (log es) k (k + 2) (meaning x.edit) xs shows log_out accepted (none_now xs rs accepted read none) in
        let q : UndoData = record { footprint = rs; inverse = inverse xs s } in
        let new : slice_set (log es) k (record { edit = meaning x.edit; kept = Some (footprint (reads (meaning x.edit) s) (inverse xs s)) }) ≡ log
        (slice_set es k (record { edit = x.edit; kept = Some q })) =
        ap (λ ps. slice_set (log es) k (record { edit = meaning x.edit; kept = Some (footprint ps (inverse xs s)) })) (sym read) ∙
        sym (set-map logged es k (record { edit = x.edit; kept = Some q })) in
        subst (λ l. IsKept {w = workbook} (apply xs s) l) new after

    pub put_reply : (xs : Changes) (rs : List Pattern) (n : ℕ) → outcome (meaning x.edit) s ≡ Ok xs → rs ≡ reads (meaning x.edit) s → n ≡ count_of xs →
        redo_blocker es k rs xs ≡ None → RedoReply (entries_meant es) k (Ok n)
    put_reply xs rs n accepted read count none =
        let can = redo_can s (log es) k (k + 2) (meaning x.edit) xs shows log_out accepted (none_now xs rs accepted read none) in (
          trace (meaning x.edit) s,
          subst (λ h. CanRedo h k (trace (meaning x.edit) s)) (history-log es) can,
          count ∙
              sym (ap (λ o. count_of (inverse (written o) s)) accepted ∙ count_inverse xs s),
        )

pub off_by : (o : Option UndoData) (b : Bool) → b ≡ is_some o → b ≡ false → o ≡ None
off_by None b e f = refl
off_by (Some q) b e f = cc

module _ (s : Cells) (es : List kept.LoggedEdit) (k : ℕ) (z : kept.LoggedEdit) (shows : Shows es s) (is : slice_get es k ≡ Some z) (xs : Changes) (rs : List Pattern)
    (n : ℕ) (plan : PlansAgain es k s xs rs n) where
  pub redone_kept : (y : kept.LoggedEdit) (t : Cells) → y ≡ record { edit = z.edit; kept = Some (record { footprint = rs; inverse = inverse xs s }) } →
      t ≡ apply xs s → Shows (slice_set es k y) t
  redone_kept y t entry cells =
      let same : plan.0 ≡ z = cc (plan.1, is) in
      let new : y ≡ record { edit = plan.0.edit; kept = Some (record { footprint = rs; inverse = inverse xs s }) } = entry ∙
      ap (λ u. record { edit = u.edit; kept = Some (record { footprint = rs; inverse = inverse xs s }) }) (sym same) in
      rw (cells, new) (put_kept s es k plan.0 shows plan.1 plan.2 xs rs plan.3 plan.4 plan.6)

  pub redone_reply : RedoReply (entries_meant es) k (Ok n)
  redone_reply = put_reply s es k plan.0 shows plan.1 plan.2 xs rs n plan.3 plan.4 plan.5 plan.6

  pub redone_memory : RedoReply (entries_meant es) k (Err NoMemory)
  redone_memory = memory_reply s es k plan.0 shows plan.1 plan.2

  pub redone_numbers : (y : kept.LoggedEdit) → y ≡ record { edit = z.edit; kept = Some (record { footprint = rs; inverse = inverse xs s }) } →
      numbered_entries (slice_set es k y) ≡ into_force k (numbered_entries es)
  redone_numbers y entry = rw entry (in_numbers es k z (record { footprint = rs; inverse = inverse xs s }) is)
