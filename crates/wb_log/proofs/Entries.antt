-- The entries of the code as the log and the history of the definitions.
use Rattle.std.proofs.Common.{◌≡◌, ℕ, zero, suc, ◌+◌, false, List, [], ◌∷◌, ◌++◌, map, length, drop, refl, sym, ap, ◌∙◌, subst, Option, Some, None, is_some}
use Rattle.std.proofs.Common.{option_map, Result, Ok, Err, IfOk, IfErr, OnOk, OnErr, slice_get, slice_set, arith, add-one}
use Rattle.selective_undo.specs.Changes.{apply, inverse}
use Rattle.selective_undo.specs.Edit.{outcome, reads}
use Rattle.selective_undo.specs.History.{traces, replay}
use Rattle.selective_undo.specs.Log.{Footprint, IsKept, history, entry_of, footprints, blocks_undo, first_from}
use Rattle.selective_undo.proofs.Log.{get-map, set-map, append-map, kept_append, kept_undo, trace_there, undo_least}
use Rattle.wb_cells.specs.Cells.{Changes, Contents, count_of}
use Rattle.wb_cells.specs.Schema.{workbook}
use Rattle.wb_edit.specs.Edits.{meaning}
use Rattle.wb_edit.specs.Plans.{IsPlan}
use Rattle.wb_edit.specs.declared.edit.Edit as command
use Rattle.wb_edit.specs.declared.planning.PlanErr.{PlanErr}
use Rattle.wb_edit.specs.declared.planning.PlanErr.TheVariants.{Refused as PlanRefused, NoMemory as PlanNoMemory}
use Rattle.wb_log.specs.declared.entry.LoggedEdit as kept
use Rattle.wb_log.specs.declared.entry.UndoData.{UndoData}
use Rattle.wb_edit.specs.declared.refusal.Refusal.{Refusal}
use Rattle.wb_edit.specs.declared.refusal.Refusal.TheVariants.{NotInForce, Blocked, NoMemory}
use Rattle.wb_log.specs.Cascades.{IsFree}
use Rattle.wb_log.specs.Past.{entry_at, out_of_force}
use Rattle.wb_log.specs.Replies.{UndoReply, EditReply}
use Rattle.wb_log.specs.Kept.{footprint, kept_in, kept_all, logged, log, Shows, numbered, numbered_entries, entries_meant, undo_blocker, MayUndo, TakenBack}
use Rattle.wb_log.specs.Kept.{refusal_of, plan_refusal}

pub drop-map : {A B : Type 0} (f : A → B) (xs : List A) (n : ℕ) → map f (drop n xs) ≡ drop n (map f xs)
drop-map f xs zero = refl
drop-map f [] (suc n) = refl
drop-map f (x ∷ xs) (suc n) = drop-map f xs n

entry_same : (x : kept.LoggedEdit) → entry_of (logged x) ≡ entry_at x.edit (is_some x.kept)
entry_same x = elim x.kept as (λ o. let y : kept.LoggedEdit = record { edit = x.edit; kept = o } in entry_of (logged y) ≡ entry_at y.edit (is_some y.kept))
    [ Some k ↦ refl | None ↦ refl ]

pub history-log : (es : List kept.LoggedEdit) → history (log es) ≡ entries_meant es
history-log [] = refl
history-log (x ∷ es) = ap (λ e. e ∷ history (log es)) (entry_same x) ∙ ap (λ h. entry_at x.edit (is_some x.kept) ∷ h) (history-log es)

pub kept-log : (es : List kept.LoggedEdit) → map (λ x. x.kept) (log es) ≡ kept_all es
kept-log [] = refl
kept-log (x ∷ es) = ap (λ os. kept_in x ∷ os) (kept-log es)

pub log_at : (es : List kept.LoggedEdit) (k : ℕ) (x : kept.LoggedEdit) → slice_get es k ≡ Some x → slice_get (log es) k ≡ Some (logged x)
log_at es k x is = get-map logged es k ∙ ap (option_map logged) is

pub refusal_is : (es : List kept.LoggedEdit) (at : ℕ) (x : kept.LoggedEdit) (f : Footprint workbook) (bs : Changes) (o : Option ℕ) → kept_in x ≡ Some f → bs ≡ f.touched
    → o ≡ first_from (blocks_undo bs) (at + 2) (drop (at + 1) (kept_all es)) → option_map Blocked o ≡ undo_blocker es at (kept_in x)
refusal_is es at x f bs o has same is =
    ap (option_map Blocked) (is ∙ ap (λ cs. first_from (blocks_undo cs) (at + 2) (drop (at + 1) (kept_all es))) same)
    ∙ sym (ap (undo_blocker es at) has)

none_of : (o : Option ℕ) → None ≡ option_map Blocked o → o ≡ None
none_of None e = refl
none_of (Some m) e = cc

-- what is known where an undo is not refused
free_of : (es : List kept.LoggedEdit) (k : ℕ) (o : Option (Footprint workbook)) → None ≡ undo_blocker es k o → (f : Footprint workbook) × (o ≡ Some f) ×
    (first_from (blocks_undo f.touched) (k + 2) (drop (k + 1) (kept_all es)) ≡ None)
free_of es k None e = cc
free_of es k (Some f) e = (f, refl, none_of (first_from (blocks_undo f.touched) (k + 2) (drop (k + 1) (kept_all es))) e)

out_numbers : (es : List kept.LoggedEdit) (k : ℕ) (x : kept.LoggedEdit) → slice_get es k ≡ Some x →
    numbered_entries (slice_set es k (record { edit = x.edit; kept = None })) ≡ out_of_force k (numbered_entries es)
out_numbers [] k x is = refl
out_numbers (z ∷ es) zero x is = let h : z ≡ x = cc in ap (λ y. record { edit = y.edit; in_force = false } ∷ numbered_entries es) (sym h)
out_numbers (z ∷ es) (suc k) x is = ap (λ ns. numbered z ∷ ns) (out_numbers es k x is)

module _ (es : List kept.LoggedEdit) (k : ℕ) (x : kept.LoggedEdit) (is : slice_get es k ≡ Some x) where
  blocked_reply : (s : _) (f : Footprint workbook) (o : Option ℕ) (why : Refusal) → Shows es s → kept_in x ≡ Some f →
      first_from (blocks_undo f.touched) (k + 2) (drop (k + 1) (kept_all es)) ≡ o → Some why ≡ option_map Blocked o → UndoReply (entries_meant es) k (Err why)
  blocked_reply s f None why shows has first e = cc
  blocked_reply s f (Some m) why shows has first e =
      let same : why ≡ Blocked m = cc in
      let found = trace_there s (log es) k (meaning x.edit) f shows (log_at es k x is ∙ ap (λ o. Some (record { edit = meaning x.edit; kept = o })) has) in
      let footprints_are : kept_all es ≡ footprints (traces (history (log es))) = sym (kept-log es) ∙ shows.footprints in
      let least = undo_least (traces (history (log es))) k (k + 2) m found.0 found.1 (rw (ap (λ g. g.touched) found.2, ← add-one k, ← footprints_are) first) in
      rw (same, ← history-log es) (least.0, omega (arith, least.1), least.2)

  pub refused_reply : (s : _) (why : Refusal) → Shows es s → Some why ≡ undo_blocker es k (kept_in x) → UndoReply (entries_meant es) k (Err why)
  refused_reply s why shows e =
      elim (kept_in x) as (λ o. kept_in x ≡ o → Some why ≡ undo_blocker es k o → UndoReply (entries_meant es) k (Err why)) [
        | Some f ↦ λ has d. blocked_reply s f (first_from (blocks_undo f.touched) (k + 2) (drop (k + 1) (kept_all es))) why shows has refl d
        | None ↦ λ has d.
            let same : why ≡ NotInForce = cc in
            rw same (
              meaning x.edit,
              ap (λ h. slice_get h k) (sym (history-log es)) ∙ get-map entry_of (log es) k ∙
                  ap (option_map entry_of) (log_at es k x is ∙ ap (λ o. Some (record { edit = meaning x.edit; kept = o })) has),
            )
      ] refl e

  -- ---- the edit is taken back

  free_now : MayUndo es k None → (f : Footprint workbook) × (kept_in x ≡ Some f) ×
      (first_from (blocks_undo f.touched) (k + 2) (drop (suc k) (map (λ x. x.kept) (log es))) ≡ None)
  free_now may =
      let same : may.0 ≡ x = cc (may.1, is) in
      let free = free_of es k (kept_in x) (may.2 ∙ ap (λ z. undo_blocker es k (kept_in z)) same) in
      (free.0, free.1, rw (kept-log es, ← add-one k) free.2)

  log_is : (f : Footprint workbook) → kept_in x ≡ Some f → slice_get (log es) k ≡ Some (record { edit = meaning x.edit; kept = Some f })
  log_is f has = log_at es k x is ∙ ap (λ o. Some (record { edit = meaning x.edit; kept = o })) has

  -- what is kept tells that it may be undone
  pub may_free : (s : _) → Shows es s → MayUndo es k None → IsFree (entries_meant es) k
  may_free s shows may =
      let (f, is_f, none) = free_now may in
      let before = (kept_undo s (log es) k (k + 2) (meaning x.edit) f shows (log_is f is_f) none).0 in
      rw (← history-log es) (before.0, before.1)

  same_footprint : (q : UndoData) (f : Footprint workbook) → x.kept ≡ Some q → kept_in x ≡ Some f → f ≡ footprint q.footprint q.inverse
  same_footprint q f has is_f = let h : option_map (λ k. footprint k.footprint k.inverse) x.kept ≡ Some (footprint q.footprint q.inverse) =
      ap (option_map (λ k. footprint k.footprint k.inverse)) has in cc

  pub set_same : (xs : List kept.LoggedEdit) (j : ℕ) (y : kept.LoggedEdit) → slice_get xs j ≡ Some y → slice_set xs j y ≡ xs
  set_same [] j y e = refl
  set_same (z ∷ xs) zero y e = let h : z ≡ y = cc in ap (λ u. u ∷ xs) (sym h)
  set_same (z ∷ xs) (suc j) y e = ap (λ us. z ∷ us) (set_same xs j y e)

  pub taken_kept : (n : ℕ) (y : kept.LoggedEdit) (b d : Contents) → Shows es b.cells → MayUndo es k None → TakenBack x n y b d → Shows (slice_set es k y) d.cells
  taken_kept n y b d shows may taken =
      let (q, has, count, gone, cells, writes) = taken in
      let (f, is_f, none) = free_now may in
      let after = (kept_undo b.cells (log es) k (k + 2) (meaning x.edit) f shows (log_is f is_f) none).1 in
      let back : apply f.touched b.cells ≡ d.cells = ap (λ g. apply g.touched b.cells) (same_footprint q f has is_f) ∙ sym cells in
      let new : slice_set (log es) k (record { edit = meaning x.edit; kept = None }) ≡ log (slice_set es k y) =
      sym (ap (λ z. log (slice_set es k z)) gone ∙ set-map logged es k (record { edit = x.edit; kept = None })) in
      subst (λ l. IsKept {w = workbook} d.cells l) new (subst (λ s. IsKept {w = workbook} s
      (slice_set (log es) k (record { edit = meaning x.edit; kept = None }))) back after)

  pub undone_kept : (r : Result ℕ Refusal) (y : kept.LoggedEdit) (b d : Contents) → Shows es b.cells → MayUndo es k None → IfOk r (λ n. TakenBack x n y b d) →
      OnErr r (y ≡ x) → OnErr r (d ≡ b) → Shows (slice_set es k y) d.cells
  undone_kept (Ok n) y b d shows may ok stays same = taken_kept n y b d shows may ok
  undone_kept (Err why) y b d shows may ok stays same = rw (same, stays, set_same es k x is) shows

  pub undone_reply : (r : Result ℕ Refusal) (y : kept.LoggedEdit) (b d : Contents) → Shows es b.cells → MayUndo es k None → IfOk r (λ n. TakenBack x n y b d) →
      IfErr r (λ e. e ≡ refusal_of x) → UndoReply (entries_meant es) k r
  undone_reply (Ok n) y b d shows may ok why =
      let (q, has, count, gone, cells, writes) = ok in
      let (f, is_f, none) = free_now may in
      let before = (kept_undo b.cells (log es) k (k + 2) (meaning x.edit) f shows (log_is f is_f) none).0 in
      rw (← history-log es) (before.0, before.1, count ∙ ap (λ g. count_of g.touched) (sym (before.2 ∙ same_footprint q f has is_f)))
  undone_reply (Err e) y b d shows may ok why =
      let (f, is_f, none) = free_now may in
      let memory : refusal_of x ≡ NoMemory = elim x.kept as (λ o. option_map (λ k. footprint k.footprint k.inverse) o ≡ Some f →
      refusal_of (record { edit = x.edit; kept = o }) ≡ NoMemory) [ Some q ↦ λ h. refl | None ↦ λ h. cc ] is_f in
      let before = (kept_undo b.cells (log es) k (k + 2) (meaning x.edit) f shows (log_is f is_f) none).0 in
      rw (why, memory, ← history-log es) (before.0, before.1)

  pub undone_numbers : (r : Result ℕ Refusal) (y : kept.LoggedEdit) (b d : Contents) → IfOk r (λ n. TakenBack x n y b d) →
      OnOk r (numbered_entries (slice_set es k y) ≡ out_of_force k (numbered_entries es))
  undone_numbers (Ok n) y b d ok = let (q, has, count, gone, cells, writes) = ok in rw gone (out_numbers es k x is)
  undone_numbers (Err e) y b d ok = tt

  pub stay_numbers : (r : Result ℕ Refusal) (y : kept.LoggedEdit) → OnErr r (y ≡ x) → OnErr r (numbered_entries (slice_set es k y) ≡ numbered_entries es)
  stay_numbers (Ok n) y stays = tt
  stay_numbers (Err e) y stays = rw (stays, set_same es k x is) refl

-- ---- an edit comes

pub numbers_length : (es : List kept.LoggedEdit) → length (entries_meant es) ≡ length es
numbers_length [] = refl
numbers_length (x ∷ es) = ap suc (numbers_length es)

pub numbers_more : (es : List kept.LoggedEdit) (x : kept.LoggedEdit) → numbered_entries (es ++ x ∷ []) ≡ numbered_entries es ++ numbered x ∷ []
numbers_more es x = append-map numbered es (x ∷ [])

pub more_kept : (b : _) (es : List kept.LoggedEdit) (e : command.Edit) (xs : Changes) (k : UndoData) → Shows es b → outcome (meaning e) b ≡ Ok xs →
    k.footprint ≡ reads (meaning e) b → k.inverse ≡ inverse xs b
    → Shows (es ++ record { edit = e; kept = Some k } ∷ []) (apply xs b)
more_kept b es e xs k shows accepted read before =
    let after = kept_append b (log es) (meaning e) xs shows accepted in
    let new : log es ++ record { edit = meaning e; kept = Some (footprint (reads (meaning e) b) (inverse xs b)) } ∷ [] ≡ log
    (es ++ record { edit = e; kept = Some k } ∷ []) =
    ap (λ f. log es ++ record { edit = meaning e; kept = Some f } ∷ [])
    (ap (λ rs. footprint rs (inverse xs b)) (sym read) ∙ ap (footprint k.footprint) (sym before))
    ∙ sym (append-map logged es (record { edit = e; kept = Some k } ∷ [])) in
    subst (λ l. IsKept {w = workbook} (apply xs b) l) new after

pub refused_edit : (b : _) (es : List kept.LoggedEdit) (e : command.Edit) (stop : PlanErr) → Shows es b → IsPlan (meaning e) b (Err stop) →
    EditReply (entries_meant es) (meaning e) (Err (plan_refusal stop))
refused_edit b es e (PlanRefused why rs) shows is = rw (← history-log es, ← shows.shown) is.0
refused_edit b es e PlanNoMemory shows is = tt

pub accepted_edit : (b : _) (es : List kept.LoggedEdit) (e : command.Edit) (xs : Changes) (k n : ℕ) → Shows es b → outcome (meaning e) b ≡ Ok xs → n ≡ count_of xs →
    k ≡ length es + 1 → EditReply (entries_meant es) (meaning e) (Ok (k, n))
accepted_edit b es e xs k n shows is count number =
    (number ∙ ap (λ m. m + 1) (sym (numbers_length es)), (xs, ap (outcome (meaning e)) (sym (shows.shown ∙ ap replay (history-log es))) ∙ is, count))
