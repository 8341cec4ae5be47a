-- Evaluation over plain lists agrees with the definitions.
use Rattle.std.proofs.Common.{◌≡◌, Bool, true, false, cond, not, List, [], ◌∷◌, length, Some, None, arith, refl, sym, ap, ◌∙◌}
use Rattle.std.specs.Ordering.{eq_by_cmp}
use Rattle.std.specs.Cmp.{eq_by_cmp_equiv}
use Rattle.std.specs.FinMap.{FinMap, get, len-empty, len-entries, entries, entries_sorted, entries-insert, entries-from_sorted, get-entries, get-from_sorted}
use Rattle.std.specs.FinMap.{get-retain_keys, get-remove, retain_keys, remove, from_sorted, empty}
use Rattle.std.specs.FinMap.Entries.{where_key, is_sorted-where_key, find-where_key}
use Rattle.std.specs.declared.cmp.Ordering.{Ordering}
use Rattle.selective_undo.specs.declared.Change as declared
use Rattle.selective_undo.specs.Changes.{IsOrder, applied, apply, inverse}
use Rattle.selective_undo.specs.Edit.{Schema, State, EditTree, refuse, write, look, written, outcome, reads, trace, step}
use Rattle.selective_undo.specs.History.{Entry, done, undone, replay, replay_from, traces, traces_from}
use Rattle.selective_undo.specs.Laws.{EvaluateEditLaw, EvaluateHistoryLaw}
use Rattle.selective_undo.specs.Evaluation.{put_in, apply_in, inverse_in, outcome_in, reads_in, trace_in, step_in, replay_in, traces_in}
use Rattle.selective_undo.proofs.Changes.{same_states}

turned : {A : Type 0} (b : Bool) (x y : A) → cond b y x ≡ cond (not b) x y
turned true x y = refl
turned false x y = refl

nothing : {A : Type 0} (es : List A) → length es ≡ 0 → es ≡ []
nothing [] h = refl
nothing (x ∷ es) h = absurd (omega (arith, h))

module _ {K V : Type 0} (order : K → K → Ordering) where
  pub entries-empty : entries (empty {X = V} {R = order}) ≡ []
  entries-empty = nothing _ (sym (len-entries (empty {X = V} {R = order})) ∙ len-empty order V)

module _ {K V : Type 0} {order : K → K → Ordering} (ordered : IsOrder order) where
  pub entries-retain_keys : (m : FinMap order V) (p : K → Bool) → entries (retain_keys m p) ≡ where_key order p (entries m)
  entries-retain_keys m p =
      let alike : (q x : K) → order q x ≡ _ → p x ≡ p q = λ q x tie. ap p (sym (ordered.strict q x tie)) in
      let es : List (K × V) = where_key order p (entries m) in
      let h = is_sorted-where_key order p (entries m) (entries_sorted m) in
      let same : retain_keys m p ≡ from_sorted es = same_states ordered _ _ (λ c.
      get-retain_keys m p c (alike c) ∙ ap (λ v. cond (p c) v None) (get-entries m c)
      ∙ sym (find-where_key order p c (alike c) (entries m)) ∙ sym (get-from_sorted order es c h)) in
      ap entries same ∙ entries-from_sorted order es h

  remove-is : (m : FinMap order V) (k : K) → remove m k ≡ retain_keys m (λ x. not (eq_by_cmp order k x))
  remove-is m k = same_states ordered _ _ (λ c.
      get-remove ordered.total m k c ∙ ap (λ b. cond b None (get m c)) ((eq_by_cmp_equiv ordered.total).symm c k)
      ∙ turned (eq_by_cmp order k c) (get m c) None
      ∙ sym (get-retain_keys m (λ x. not (eq_by_cmp order k x)) c (λ x tie. ap (λ y. not (eq_by_cmp order k y)) (sym (ordered.strict c x tie)))))

  pub entries-put : (x : declared.Change K V) (m : FinMap order V) → entries (applied x m) ≡ put_in order x (entries m)
  entries-put x m =
      elim x.value as (λ v. entries (applied (record x { value = v }) m) ≡ put_in order (record x { value = v }) (entries m)) [
        | Some v ↦ entries-insert ordered.total m x.cell v
        | None ↦ ap entries (remove-is m x.cell) ∙ entries-retain_keys m _
      ]

  pub entries-apply : (xs : List (declared.Change K V)) (m : FinMap order V) → entries (apply xs m) ≡ apply_in order xs (entries m)
  entries-apply [] m = refl
  entries-apply (x ∷ xs) m = entries-apply xs (applied x m) ∙ ap (apply_in order xs) (entries-put x m)

  pub inverse-entries : (xs : List (declared.Change K V)) (m : FinMap order V) → inverse xs m ≡ inverse_in order xs (entries m)
  inverse-entries [] m = refl
  inverse-entries (x ∷ xs) m = λ i. record { cell = x.cell; value = get-entries m x.cell i } ∷ inverse-entries xs m i

module _ {w : Schema} where
  -- ---- these are the outcomes, traces and replays of the theory

  pub outcome-entries : (e : EditTree w) (s : State w) → outcome e s ≡ outcome_in e (entries s)
  outcome-entries (refuse why) s = refl
  outcome-entries (write xs) s = refl
  outcome-entries (look p next) s = rw (entries-retain_keys w.is_order s (w.matches p)) (outcome-entries (next _) s)

  pub reads-entries : (e : EditTree w) (s : State w) → reads e s ≡ reads_in e (entries s)
  reads-entries (refuse why) s = refl
  reads-entries (write xs) s = refl
  reads-entries (look p next) s = rw (entries-retain_keys w.is_order s (w.matches p)) (ap (λ ps. p ∷ ps) (reads-entries (next _) s))

  pub trace-entries : (e : EditTree w) (s : State w) → trace e s ≡ trace_in e (entries s)
  trace-entries e s = rw (reads-entries e s, outcome-entries e s, inverse-entries w.is_order (written (outcome_in e (entries s))) s)

  pub step-entries : (e : EditTree w) (s : State w) → entries (step e s) ≡ step_in e (entries s)
  step-entries e s = entries-apply w.is_order (written (outcome e s)) s ∙ ap (λ o. apply_in w.order (written o) (entries s)) (outcome-entries e s)

  pub replay-entries : (h : List (Entry w)) (s : State w) → entries (replay_from h s) ≡ replay_in h (entries s)
  replay-entries [] s = refl
  replay-entries (done e ∷ h) s = replay-entries h (step e s) ∙ ap (replay_in h) (step-entries e s)
  replay-entries (undone e ∷ h) s = replay-entries h s

  pub traces-entries : (h : List (Entry w)) (s : State w) → traces_from h s ≡ traces_in h (entries s)
  traces-entries [] s = refl
  traces-entries (done e ∷ h) s = λ i. Some (trace-entries e s i) ∷ (traces-entries h (step e s) ∙ ap (traces_in h) (step-entries e s)) i
  traces-entries (undone e ∷ h) s = ap (λ ts. None ∷ ts) (traces-entries h s)

  -- from the empty workbook
  pub entries-replay : (h : List (Entry w)) → entries (replay h) ≡ replay_in h []
  entries-replay h = replay-entries h empty ∙ ap (replay_in h) (entries-empty w.order)

  pub traces-in : (h : List (Entry w)) → traces h ≡ traces_in h []
  traces-in h = traces-entries h empty ∙ ap (traces_in h) (entries-empty w.order)

pub evaluate_edit_law : (w : Schema) → EvaluateEditLaw w
evaluate_edit_law w e s = (trace-entries e s, step-entries e s)

pub evaluate_history_law : (w : Schema) → EvaluateHistoryLaw w
evaluate_history_law w h = (traces-in h, entries-replay h)
