-- Undos one after another.
use Rattle.std.proofs.Common.{◌≡◌, ◌≢◌, ℕ, zero, suc, ◌+◌, ◌-◌, ◌^◌, ◌<◌, ◌≤◌, true, false, List, [], ◌∷◌, ◌++◌, length, take, drop, Some, None, is_some}
use Rattle.std.proofs.Common.{option_map, Ok, Err, slice_get, arith, refl, sym, ap, ◌∙◌, subst}
use Rattle.std.specs.Prelude.{min}
use Rattle.std.proofs.Math.Nat.{sub-add-min_cancel}
use Rattle.std.proofs.lemmas.List.{take-append-drop}
use Rattle.selective_undo.specs.Edit.{Trace}
use Rattle.selective_undo.specs.History.{Entry, undo, traces, InForce, CanUndo, CanUndoAll}
use Rattle.selective_undo.proofs.Log.{append-map, get-map, trace_there}
use Rattle.wb_cells.specs.Cells.{saturating_add}
use Rattle.wb_cells.specs.Schema.{workbook}
use Rattle.wb_edit.specs.Edits.{meaning}
use Rattle.wb_log.specs.declared.entry.LoggedEdit as kept
use Rattle.wb_edit.specs.declared.refusal.Refusal.TheVariants.{NotInForce, NoMemory}
use Rattle.wb_log.specs.Past.{Numbered, meant, entry_at, out_of_force}
use Rattle.wb_log.specs.Replies.{UndoReply}
use Rattle.wb_log.specs.Kept.{numbered_entries, numbered, entries_meant, log, footprint, by_number, Shows}
use Rattle.wb_log.specs.Needed.{AreFromFootprints}
use Rattle.wb_log.specs.Cascades.{DependentsReply, CascadeReply, places, touched, set_back, all_out_of_force, IsRisen, AreUndone}
use Rattle.wb_log.proofs.Depending.{by_traces, are_dependents}
use Rattle.wb_log.proofs.Entries.{history-log, log_at}
use Rattle.wb_log.proofs.Granted.{undo_meant}

-- ---- one more undo

abbrev pub undo_all : List ℕ → List (Entry workbook) → List (Entry workbook)
undo_all [] h = h
undo_all (k ∷ ks) h = undo_all ks (undo k h)

can_more : (h : List (Entry workbook)) (ks : List ℕ) (k : ℕ) (t : Trace workbook) → CanUndoAll h ks → CanUndo (undo_all ks h) k t → CanUndoAll h (ks ++ k ∷ [])
can_more h [] k t can last = ((t, last), tt)
can_more h (j ∷ ks) k t can last = (can.0, can_more (undo j h) ks k t can.1 last)

back_more : (h : List (Entry workbook)) (ks : List ℕ) (k : ℕ) → set_back h (ks ++ k ∷ []) ≡ set_back h ks + touched (slice_get (traces (undo_all ks h)) k)
back_more h [] k = omega arith
back_more h (j ∷ ks) k = let e = back_more (undo j h) ks k in omega (arith, e)

out_more : (es : List Numbered) (ns : List ℕ) (n : ℕ) → all_out_of_force (ns ++ n ∷ []) es ≡ out_of_force (n - 1) (all_out_of_force ns es)
out_more es [] n = refl
out_more es (m ∷ ns) n = out_more (out_of_force (m - 1) es) ns n

pub left_meant : (ns : List ℕ) (es : List Numbered) → undo_all (places ns) (meant es) ≡ meant (all_out_of_force ns es)
left_meant [] es = refl
left_meant (n ∷ ns) es = ap (undo_all (places ns)) (undo_meant (n - 1) es) ∙ left_meant ns (out_of_force (n - 1) es)

-- a count that stops at m
pub capped : (c n m : ℕ) → min (min c m + n) m ≡ min (c + n) m
capped c n m =
    let a = sub-add-min_cancel c m in
    let b = sub-add-min_cancel (min c m + n) m in
    let d = sub-add-min_cancel (c + n) m in
    omega (arith, a, b, d)

more_written : (w c n : ℕ) → saturating_add (saturating_add w c) n ≡ saturating_add w (c + n)
more_written w c n =
    let m = 2 ^ 128 - 1 in
    let sum : (w + c) + n ≡ w + (c + n) = omega arith in
    capped (w + c) n m ∙ ap (λ (k : ℕ). min k m) sum

-- the count of writes
risen_more : (es : List Numbered) (ns : List ℕ) (w v u more : ℕ) → IsRisen ns w (set_back (meant es) (places ns)) v → u ≡ saturating_add v more →
    u ≡ saturating_add w (set_back (meant es) (places ns) + more)
risen_more es [] w v u more same writes =
    let zero_c : more ≡ 0 + more = omega arith in
    writes ∙ ap (λ (x : ℕ). saturating_add x more) same ∙ ap (saturating_add w) zero_c
risen_more es (n ∷ ns) w v u more risen writes = writes ∙ ap (λ (x : ℕ). saturating_add x more) risen ∙
    more_written w (set_back (meant es) (places (n ∷ ns))) more

risen_now : (ns : List ℕ) (n w c u : ℕ) → u ≡ saturating_add w c → IsRisen (ns ++ n ∷ []) w c u
risen_now [] n w c u is = is
risen_now (m ∷ ns) n w c u is = is

pub risen_some : (ns : List ℕ) (w c v : ℕ) → ns ≢ [] → IsRisen ns w c v → v ≡ saturating_add w c
risen_some [] w c v some risen = absurd (some refl)
risen_some (n ∷ ns) w c v some risen = risen

pub none_undone : (es : List Numbered) (w : ℕ) → AreUndone es w [] es 0 w
none_undone es w = record { granted = tt; left = refl; count = refl; writes = refl }

pub one_undone : (es fs gs : List Numbered) (w n v m u number more : ℕ) (ns : List ℕ) → AreUndone es w ns fs n v →
    UndoReply (meant fs) (number - 1) (Ok more) → gs ≡ out_of_force (number - 1) fs
    → m ≡ min (n + more) (2 ^ 64 - 1) → u ≡ saturating_add v more → AreUndone es w (ns ++ number ∷ []) gs m u
one_undone es fs gs w n v m u number more ns h reply out count writes =
    let k = number - 1 in
    let ks = places ns in
    let now_is : undo_all ks (meant es) ≡ meant fs = left_meant ns es ∙ ap meant (sym h.left) in
    let (t, can, cells) = reply in
    let all : places (ns ++ number ∷ []) ≡ ks ++ k ∷ [] = append-map (λ (i : ℕ). i - 1) ns (number ∷ []) in
    let here : touched (slice_get (traces (undo_all ks (meant es))) k) ≡ more = ap (λ g. touched (slice_get (traces g) k)) now_is ∙ ap touched can.in_force ∙
    sym cells in
    let sum : set_back (meant es) (places (ns ++ number ∷ [])) ≡ set_back (meant es) ks + more = ap (set_back (meant es)) all ∙ back_more (meant es) ks k ∙
    ap (λ (c : ℕ). set_back (meant es) ks + c) here in
    record {
      granted = subst (λ js. CanUndoAll (meant es) js) (sym all) (can_more (meant es) ks k t h.granted (subst (λ g. CanUndo g k t) (sym now_is) can));
      left = out ∙ ap (out_of_force k) h.left ∙ sym (out_more es ns number);
      count = count ∙ ap (λ (c : ℕ). min (c + more) (2 ^ 64 - 1)) h.count ∙ capped (set_back (meant es) ks) more (2 ^ 64 - 1) ∙
          ap (λ (c : ℕ). min c (2 ^ 64 - 1)) (sym sum);
      writes = risen_now ns number w (set_back (meant es) (places (ns ++ number ∷ []))) u
          (risen_more es ns w v u more h.writes writes ∙ ap (saturating_add w) (sym sum));
    }

pub take_more : (ns : List ℕ) (i n : ℕ) → slice_get ns i ≡ Some n → take (suc i) ns ≡ take i ns ++ n ∷ []
take_more [] i n is = cc
take_more (m ∷ ns) zero n is = let h : m ≡ n = cc in ap (λ (l : ℕ). l ∷ []) h
take_more (m ∷ ns) (suc i) n is = ap (λ ls. m ∷ ls) (take_more ns i n is)

-- ---- the dependents

module _ (s : _) (es : List kept.LoggedEdit) (k : ℕ) (x : kept.LoggedEdit) (shows : Shows es s) (is : slice_get es k ≡ Some x) where
  meant_here : slice_get (entries_meant es) k ≡ Some (entry_at x.edit (is_some x.kept))
  meant_here = get-map (λ y. entry_at y.edit y.in_force) (numbered_entries es) k ∙
      ap (option_map (λ y. entry_at y.edit y.in_force)) (get-map numbered es k ∙ ap (option_map numbered) is)

  pub out_of_force_reply : is_some x.kept ≡ false → DependentsReply (entries_meant es) k (Err NotInForce)
  out_of_force_reply off = (meaning x.edit, meant_here ∙ ap (λ b. Some (entry_at x.edit b)) off)

  there : is_some x.kept ≡ true → (t : Trace workbook) × InForce (traces (entries_meant es)) k t
  there on =
      elim x.kept as (λ o. x.kept ≡ o → is_some o ≡ true → (t : Trace workbook) × InForce (traces (entries_meant es)) k t) [
        | Some q ↦ λ has yes.
            let f = footprint q.footprint q.inverse in
            let found = trace_there s (log es) k (meaning x.edit) f shows
            (log_at es k x is ∙ ap (λ o. Some (record { edit = meaning x.edit; kept = option_map (λ k. footprint k.footprint k.inverse) o })) has) in
            (found.0, subst (λ g. InForce (traces g) k found.0) (history-log es) found.1)
        | None ↦ λ has yes. cc
      ] refl on

  pub dependents_reply : is_some x.kept ≡ true → (ns : List ℕ) → AreFromFootprints (by_number es) (k + 1) ns → DependentsReply (entries_meant es) k (Ok ns)
  dependents_reply on ns found =
      let one : k + 1 ≡ suc k = omega arith in
      let from : AreFromFootprints (by_number es) (suc k) ns = subst (λ (m : ℕ). AreFromFootprints (by_number es) m ns) one found in
      (there on, are_dependents (traces (entries_meant es)) k ns (subst (λ f. AreFromFootprints f (suc k) ns) (by_traces es s shows) from))

  pub no_room_reply : is_some x.kept ≡ true → DependentsReply (entries_meant es) k (Err NoMemory)
  no_room_reply on = there on

-- ---- the whole

take_some : (ns : List ℕ) (i : ℕ) → 0 < i → i ≤ length ns → take i ns ≢ []
take_some ns zero some low = absurd (omega (arith, some))
take_some [] (suc i) some low = absurd (omega (arith, low))
take_some (n ∷ ns) (suc i) some low = λ e. cc

module _ (es : List Numbered) (k : ℕ) (all : List ℕ) (i w n v : ℕ) (fs : List Numbered) (some : 0 < i) (low : i ≤ length all)
    (h : AreUndone es w (take i all) fs n v) where
  pub cascade_reply : DependentsReply (meant es) k (Ok all) → CascadeReply (meant es) k (Ok (take i all, n))
  cascade_reply due = (
    take_some all i some low,
    (drop i all, subst (λ (ns : List ℕ). DependentsReply (meant es) k (Ok ns)) (sym (take-append-drop i all)) due),
    h.granted,
    h.count,
  )

  pub cascade_writes : v ≡ saturating_add w (set_back (meant es) (places (take i all)))
  cascade_writes = risen_some (take i all) w (set_back (meant es) (places (take i all))) v (take_some all i some low) h.writes
