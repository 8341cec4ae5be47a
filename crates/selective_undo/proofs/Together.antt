-- Changes put together, and edits made as one.
use Rattle.std.proofs.Common.{◌≡◌, ℕ, zero, suc, ◌+◌, Bool, true, false, true≢false, cond, not, ◌||◌, List, [], ◌∷◌, ◌++◌, map, take, length, Option, Some, None}
use Rattle.std.proofs.Common.{Result, Ok, Err, IsOk, arith, refl, sym, ap, ◌∙◌, subst, Ordering, append_assoc}
use Rattle.std.proofs.lemmas.List.{map-append, append-nil}
use Rattle.std.specs.Ordering.{eq_by_cmp}
use Rattle.std.specs.FinMap.{FinMap, get, entries}
use Rattle.std.specs.FinMap.Entries.{where_key}
use Rattle.selective_undo.specs.declared.Change as declared
use Rattle.selective_undo.specs.Changes.{IsOrder, applied, apply, inverse, changes, AllOnce}
use Rattle.selective_undo.specs.Edit.{Schema, State, Change, EditTree, Trace, refuse, write, look, part, seen, outcome, reads, written, trace, step, writes}
use Rattle.selective_undo.specs.History.{done, replay_from, traces_from, InForce}
use Rattle.selective_undo.specs.Together.{left_in, others, together, after, both, refused_as, all_from, all_of, followed, all_reads, IsFirstRefused}
use Rattle.selective_undo.specs.Laws.{TogetherLaw, OverlaidLaw, BothLaw, FrontLaw, AllOfLaw}
use Rattle.selective_undo.proofs.Changes.{not_true, or_right, is_itself, changes-inverse, same_states, get-put, apply_keeps}
use Rattle.selective_undo.proofs.Locality.{get-part, same_part, or_neither}
use Rattle.selective_undo.proofs.AllOrNothing.{tied}
use Rattle.selective_undo.proofs.Evaluation.{entries-retain_keys, entries-apply}

or_or : (a b c : Bool) → (a || b) || c ≡ a || (b || c)
or_or true b c = refl
or_or false b c = refl

-- ---- changes put together

module _ {K V : Type 0} (order : K → K → Ordering) where
  -- a cell that is not changed keeps what it had
  left_in-keeps : (xs : List (declared.Change K V)) (c : K) (v : Option V) → changes order xs c ≡ false → left_in order xs c v ≡ v
  left_in-keeps [] c v e = refl
  left_in-keeps (x ∷ xs) c v e =
      let (first, rest) = or_neither (eq_by_cmp order c x.cell) (changes order xs c) e in
      rw first (left_in-keeps xs c v rest)

  -- a cell that is changed has what the changes alone say
  left_in-sets : (xs : List (declared.Change K V)) (c : K) (v u : Option V) → changes order xs c ≡ true → left_in order xs c v ≡ left_in order xs c u
  left_in-sets [] c v u e = cc
  left_in-sets (x ∷ xs) c v u e =
      elim (eq_by_cmp order c x.cell) as
      (λ b. b || changes order xs c ≡ true → left_in order xs c (cond b x.value v) ≡ left_in order xs c (cond b x.value u)) [
        | true ↦ λ h. refl
        | false ↦ λ h. left_in-sets xs c v u h
      ] e

  left_in-append : (xs ys : List (declared.Change K V)) (c : K) (v : Option V) → left_in order (xs ++ ys) c v ≡ left_in order ys c (left_in order xs c v)
  left_in-append [] ys c v = refl
  left_in-append (x ∷ xs) ys c v = left_in-append xs ys c _

  changes-append : (xs ys : List (declared.Change K V)) (c : K) → changes order (xs ++ ys) c ≡ changes order xs c || changes order ys c
  changes-append [] ys c = refl
  changes-append (x ∷ xs) ys c =
      elim (eq_by_cmp order c x.cell) as (λ b. b || changes order (xs ++ ys) c ≡ (b || changes order xs c) || changes order ys c)
      [ true ↦ refl | false ↦ changes-append xs ys c ]

  -- changes with other values are to the same cells
  changes-over : (xs : List (declared.Change K V)) (value : declared.Change K V → Option V) (c : K) →
      changes order (map (λ x. record { cell = x.cell; value = value x }) xs) c ≡ changes order xs c
  changes-over [] value c = refl
  changes-over (x ∷ xs) value c = ap (λ b. eq_by_cmp order c x.cell || b) (changes-over xs value c)

  once-over : (xs : List (declared.Change K V)) (value : declared.Change K V → Option V) → AllOnce order xs →
      AllOnce order (map (λ x. record { cell = x.cell; value = value x }) xs)
  once-over [] value once = tt
  once-over (x ∷ xs) value once = (changes-over xs value x.cell ∙ once.0, once-over xs value once.1)

  -- a change of a cell that xs leave alone is kept
  changes-others : (xs ys : List (declared.Change K V)) (c : K) → changes order ys c ≡ false → changes order (others order xs ys) c ≡ false
  changes-others xs [] c e = refl
  changes-others xs (y ∷ ys) c e =
      let (first, rest) = or_neither (eq_by_cmp order c y.cell) (changes order ys c) e in
      elim (changes order xs y.cell) as (λ b. changes order (cond (not b) (y ∷ others order xs ys) (others order xs ys)) c ≡ false) [
        | true ↦ changes-others xs ys c rest
        | false ↦ rw first (changes-others xs ys c rest)
      ]

  once-others : (xs ys : List (declared.Change K V)) → AllOnce order ys → AllOnce order (others order xs ys)
  once-others xs [] once = tt
  once-others xs (y ∷ ys) once =
      elim (changes order xs y.cell) as (λ b. AllOnce order (cond (not b) (y ∷ others order xs ys) (others order xs ys))) [
        | true ↦ once-others xs ys once.1
        | false ↦ (changes-others xs ys y.cell once.0, once-others xs ys once.1)
      ]

module _ {K V : Type 0} {order : K → K → Ordering} (ordered : IsOrder order) where
  get-apply : (xs : List (declared.Change K V)) (s : FinMap order V) (c : K) → get (apply xs s) c ≡ left_in order xs c (get s c)
  get-apply [] s c = refl
  get-apply (x ∷ xs) s c = get-apply xs (applied x s) c ∙ ap (left_in order xs c) (get-put ordered x s c)

  -- the cells of xs, with what ys leave there
  left_in-over : (xs ys : List (declared.Change K V)) (c : K) (v : Option V) →
      left_in order (map (λ x. record { cell = x.cell; value = left_in order ys x.cell x.value }) xs) c v
      ≡ cond (changes order xs c) (left_in order ys c (left_in order xs c v)) v
  left_in-over [] ys c v = refl
  left_in-over (x ∷ xs) ys c v =
      let value : Option V = left_in order ys x.cell x.value in
      elim (eq_by_cmp order c x.cell) as
      (λ b. eq_by_cmp order c x.cell ≡ b → left_in order (map (λ x. record { cell = x.cell; value = left_in order ys x.cell x.value }) xs) c (cond b value v)
      ≡ cond (b || changes order xs c) (left_in order ys c (left_in order xs c (cond b x.value v))) v) [
        | true ↦ λ e. left_in-over xs ys c value ∙ over_here xs ys c x.value value (ap (λ d. left_in order ys d x.value) (sym (tied ordered c x.cell e)))
        | false ↦ λ e. left_in-over xs ys c v
      ] refl
    where
      over_here : (xs ys : List (declared.Change K V)) (c : K) (v u : Option V) → u ≡ left_in order ys c v →
          cond (changes order xs c) (left_in order ys c (left_in order xs c u)) u ≡ left_in order ys c (left_in order xs c v)
      over_here xs ys c v u is =
          elim (changes order xs c) as
          (λ b. changes order xs c ≡ b → cond b (left_in order ys c (left_in order xs c u)) u ≡ left_in order ys c (left_in order xs c v)) [
            | true ↦ λ e. ap (left_in order ys c) (left_in-sets order xs c u v e)
            | false ↦ λ e. is ∙ ap (left_in order ys c) (sym (left_in-keeps order xs c v e))
          ] refl

  -- a cell that xs change is none of the others
  others-apart : (xs ys : List (declared.Change K V)) (c : K) → changes order xs c ≡ true → changes order (others order xs ys) c ≡ false
  others-apart xs [] c e = refl
  others-apart xs (y ∷ ys) c e =
      elim (changes order xs y.cell) as (λ b. changes order xs y.cell ≡ b →
      changes order (cond (not b) (y ∷ others order xs ys) (others order xs ys)) c ≡ false) [
        | true ↦ λ h. others-apart xs ys c e
        | false ↦ λ h.
            let other : eq_by_cmp order c y.cell ≡ false =
            not_true _ (λ k. true≢false (sym e ∙ ap (changes order xs) (tied ordered c y.cell k) ∙ h)) in
            rw other (others-apart xs ys c e)
      ] refl

  -- any other cell is one of them where it is one of ys
  others-rest : (xs ys : List (declared.Change K V)) (c : K) → changes order xs c ≡ false → changes order (others order xs ys) c ≡ changes order ys c
  others-rest xs [] c e = refl
  others-rest xs (y ∷ ys) c e =
      elim (changes order xs y.cell) as (λ b. changes order xs y.cell ≡ b →
      changes order (cond (not b) (y ∷ others order xs ys) (others order xs ys)) c ≡ eq_by_cmp order c y.cell || changes order ys c) [
        | true ↦ λ h.
            let other : eq_by_cmp order c y.cell ≡ false =
            not_true _ (λ k. true≢false (sym h ∙ ap (changes order xs) (sym (tied ordered c y.cell k)) ∙ e)) in
            rw other (others-rest xs ys c e)
        | false ↦ λ h. ap (λ b. eq_by_cmp order c y.cell || b) (others-rest xs ys c e)
      ] refl

  left_in-others : (xs ys : List (declared.Change K V)) (c : K) (v : Option V) →
      left_in order (others order xs ys) c v ≡ cond (changes order xs c) v (left_in order ys c v)
  left_in-others xs ys c v =
      elim (changes order xs c) as (λ b. changes order xs c ≡ b → left_in order (others order xs ys) c v ≡ cond b v (left_in order ys c v)) [
        | true ↦ λ e. left_in-keeps order (others order xs ys) c v (others-apart xs ys c e)
        | false ↦ λ e. as_before xs ys c v e
      ] refl
    where
      as_before : (xs ys : List (declared.Change K V)) (c : K) (v : Option V) → changes order xs c ≡ false →
          left_in order (others order xs ys) c v ≡ left_in order ys c v
      as_before xs [] c v e = refl
      as_before xs (y ∷ ys) c v e =
          elim (changes order xs y.cell) as (λ b. changes order xs y.cell ≡ b →
          left_in order (cond (not b) (y ∷ others order xs ys) (others order xs ys)) c v ≡ left_in order ys c (cond (eq_by_cmp order c y.cell) y.value v)) [
            | true ↦ λ h.
                let other : eq_by_cmp order c y.cell ≡ false =
                not_true _ (λ k. true≢false (sym h ∙ ap (changes order xs) (sym (tied ordered c y.cell k)) ∙ e)) in
                rw other (as_before xs ys c v e)
            | false ↦ λ h. as_before xs ys c _ e
          ] refl

  left_in-together : (xs ys : List (declared.Change K V)) (c : K) (v : Option V) →
      left_in order (together order xs ys) c v ≡ left_in order ys c (left_in order xs c v)
  left_in-together xs ys c v =
      left_in-append order (map (λ x. record { cell = x.cell; value = left_in order ys x.cell x.value }) xs) (others order xs ys) c v
      ∙ left_in-others xs ys c _ ∙ ap (λ u. cond (changes order xs c) u (left_in order ys c u)) (left_in-over xs ys c v)
      ∙ elim (changes order xs c) as (λ b. changes order xs c ≡ b →
      cond b (cond b (left_in order ys c (left_in order xs c v)) v) (left_in order ys c (cond b (left_in order ys c (left_in order xs c v)) v))
      ≡ left_in order ys c (left_in order xs c v)) [
        | true ↦ λ e. refl
        | false ↦ λ e. ap (left_in order ys c) (sym (left_in-keeps order xs c v e))
      ] refl

  pub apply-together : (xs ys : List (declared.Change K V)) (s : FinMap order V) → apply (together order xs ys) s ≡ apply ys (apply xs s)
  apply-together xs ys s = same_states ordered _ _ λ c.
      get-apply (together order xs ys) s c ∙ left_in-together xs ys c (get s c) ∙ ap (left_in order ys c) (sym (get-apply xs s c))
      ∙ sym (get-apply ys (apply xs s) c)

  pub changes-together : (xs ys : List (declared.Change K V)) (c : K) → changes order (together order xs ys) c ≡ changes order xs c || changes order ys c
  changes-together xs ys c =
      changes-append order (map (λ x. record { cell = x.cell; value = left_in order ys x.cell x.value }) xs) (others order xs ys) c
      ∙ ap (λ b. b || changes order (others order xs ys) c) (changes-over order xs (λ x. left_in order ys x.cell x.value) c)
      ∙ elim (changes order xs c) as (λ b. changes order xs c ≡ b → b || changes order (others order xs ys) c ≡ b || changes order ys c) [
        | true ↦ λ e. refl
        | false ↦ λ e. others-rest xs ys c e
      ] refl

  once-append : (xs ys : List (declared.Change K V)) → AllOnce order xs → AllOnce order ys → ((c : K) → changes order xs c ≡ true → changes order ys c ≡ false) →
      AllOnce order (xs ++ ys)
  once-append [] ys once more apart = more
  once-append (x ∷ xs) ys once more apart = (
    changes-append order xs ys x.cell ∙ rw (once.0, apart x.cell (rw (is_itself ordered x.cell))) refl,
    once-append xs ys once.1 more (λ c e. apart c (or_right _ _ e)),
  )

  pub once-together : (xs ys : List (declared.Change K V)) → AllOnce order xs → AllOnce order ys → AllOnce order (together order xs ys)
  once-together xs ys once more =
      let value : declared.Change K V → Option V = λ x. left_in order ys x.cell x.value in
      once-append (map (λ x. record { cell = x.cell; value = left_in order ys x.cell x.value }) xs) (others order xs ys)
      (once-over order xs value once) (once-others order xs ys more)
      (λ c e. others-apart xs ys c (sym (changes-over order xs value c) ∙ e))

  -- the same where the changes of xs keep their values, as in what was there before
  cells-append : (xs ys : List (declared.Change K V)) (c : K) → changes order (xs ++ others order xs ys) c ≡ changes order xs c || changes order ys c
  cells-append xs ys c =
      changes-append order xs (others order xs ys) c
      ∙ elim (changes order xs c) as (λ b. changes order xs c ≡ b → b || changes order (others order xs ys) c ≡ b || changes order ys c) [
        | true ↦ λ e. refl
        | false ↦ λ e. others-rest xs ys c e
      ] refl

  once-before : (xs ys : List (declared.Change K V)) → AllOnce order xs → AllOnce order ys → AllOnce order (xs ++ others order xs ys)
  once-before xs ys once more = once-append xs (others order xs ys) once (once-others order xs ys more) (others-apart xs ys)

  -- ---- what was there before

  inverse-over : (xs : List (declared.Change K V)) (value : declared.Change K V → Option V) (s : FinMap order V) →
      inverse (map (λ x. record { cell = x.cell; value = value x }) xs) s ≡ inverse xs s
  inverse-over [] value s = refl
  inverse-over (x ∷ xs) value s = ap (λ zs. record { cell = x.cell; value = get s x.cell } ∷ zs) (inverse-over xs value s)

  inverse-others : (xs ys : List (declared.Change K V)) (s : FinMap order V) →
      inverse (others order xs ys) s ≡ others order (inverse xs s) (inverse ys (apply xs s))
  inverse-others xs [] s = refl
  inverse-others xs (y ∷ ys) s =
      rw (changes-inverse xs s y.cell)
      (elim (changes order xs y.cell) as (λ b. changes order xs y.cell ≡ b → inverse (cond (not b) (y ∷ others order xs ys) (others order xs ys)) s
      ≡ cond (not b) (record { cell = y.cell; value = get (apply xs s) y.cell } ∷ others order (inverse xs s) (inverse ys (apply xs s)))
      (others order (inverse xs s) (inverse ys (apply xs s)))) [
        | true ↦ λ e. inverse-others xs ys s
        | false ↦ λ e. rw (apply_keeps ordered xs s y.cell e) (ap (λ zs. record { cell = y.cell; value = get s y.cell } ∷ zs) (inverse-others xs ys s))
      ] refl)

  pub inverse-together : (xs ys : List (declared.Change K V)) (s : FinMap order V) →
      inverse (together order xs ys) s ≡ inverse xs s ++ others order (inverse xs s) (inverse ys (apply xs s))
  inverse-together xs ys s =
      map-append (λ x. record { cell = x.cell; value = get s x.cell }) (map (λ x. record { cell = x.cell; value = left_in order ys x.cell x.value }) xs) (others order xs ys)
      ∙ ap (λ zs. zs ++ inverse (others order xs ys) s) (inverse-over xs (λ x. left_in order ys x.cell x.value) s)
      ∙ ap (λ zs. inverse xs s ++ zs) (inverse-others xs ys s)

pub together_law : (w : Schema) → TogetherLaw w
together_law w xs ys s = (
  apply-together w.is_order xs ys s,
  changes-together w.is_order xs ys,
  once-together w.is_order xs ys,
  inverse-together w.is_order xs ys s,
)

-- ---- edits as one

pub overlaid_law : (w : Schema) → OverlaidLaw w
overlaid_law w xs p s =
    ap (where_key w.order (w.matches p)) (sym (entries-apply w.is_order xs (part w p s)))
    ∙ sym (entries-retain_keys w.is_order (apply xs (part w p s)) (w.matches p))
    ∙ ap entries (same_part w p (apply xs (part w p s)) (apply xs s) λ c e.
    get-apply w.is_order xs (part w p s) c ∙ ap (left_in w.order xs c) (get-part w p s c ∙ rw e refl) ∙ sym (get-apply w.is_order xs s c))

-- the outcome of changes xs and then an edit
abbrev joined_outcome : (w : Schema) → List (Change w) → Result (List (Change w)) w.Refusal → Result (List (Change w)) w.Refusal
joined_outcome w xs (Ok ys) = Ok (together w.order xs ys)
joined_outcome w xs (Err why) = Err why

module _ {w : Schema} where
  reads-after : (xs : List (Change w)) (e : EditTree w) (s : State w) → reads (after xs e) s ≡ reads e (apply xs s)
  reads-after xs (refuse why) s = refl
  reads-after xs (write ys) s = refl
  reads-after xs (look p next) s = rw (overlaid_law w xs p s) (ap (λ ps. p ∷ ps) (reads-after xs (next (seen w p (apply xs s))) s))

  outcome-after : (xs : List (Change w)) (e : EditTree w) (s : State w) → outcome (after xs e) s ≡ joined_outcome w xs (outcome e (apply xs s))
  outcome-after xs (refuse why) s = refl
  outcome-after xs (write ys) s = refl
  outcome-after xs (look p next) s =
      ap (λ es. outcome (after xs (next es)) s) (overlaid_law w xs p s) ∙ outcome-after xs (next (seen w p (apply xs s))) s

  -- what an edit did that has looked at pattern p before
  abbrev looked : w.Pattern → Trace w → Trace w
  looked p t = record { reads = p ∷ t.reads; outcome = t.outcome; before = t.before }

  followed-looked : (p : w.Pattern) (t u : Trace w) → followed (looked p t) u ≡ looked p (followed t u)
  followed-looked p t u =
      elim t.outcome as (λ o. let v : Trace w = record { reads = t.reads; outcome = o; before = t.before } in followed (looked p v) u ≡ looked p (followed v u)) [
        | Ok xs ↦
            elim u.outcome as (λ o. let v : Trace w = record { reads = t.reads; outcome = Ok xs; before = t.before } in
            let r : Trace w = record { reads = u.reads; outcome = o; before = u.before } in followed (looked p v) r ≡ looked p (followed v r))
            [ Ok ys ↦ refl | Err why ↦ refl ]
        | Err why ↦ refl
      ]

  -- what changes xs and then an edit did, by what the edit did after them
  after_trace : (xs : List (Change w)) (d : EditTree w) (s : State w) → trace (after xs d) s ≡ followed (trace (write xs) s) (trace d (apply xs s))
  after_trace xs d s =
      rw (reads-after xs d s, outcome-after xs d s)
      (elim (outcome d (apply xs s)) as (λ o.
      (let v : Trace w = record { reads = reads d (apply xs s); outcome = joined_outcome w xs o; before = inverse (written (joined_outcome w xs o)) s } in v)
      ≡ followed (trace (write xs) s) (record { reads = reads d (apply xs s); outcome = o; before = inverse (written o) (apply xs s) })) [
        | Ok ys ↦ ap (λ zs. let v : Trace w = record { reads = reads d (apply xs s); outcome = Ok (together w.order xs ys); before = zs } in v)
            (inverse-together w.is_order xs ys s)
        | Err why ↦ refl
      ])

  pub both_trace : (e d : EditTree w) (s : State w) → trace (both e d) s ≡ followed (trace e s) (trace d (step e s))
  both_trace (refuse why) d s = refl
  both_trace (write xs) d s = after_trace xs d s
  both_trace (look p next) d s =
      ap (looked p) (both_trace (next (seen w p s)) d s)
      ∙ sym (followed-looked p (trace (next (seen w p s)) s) (trace d (step (next (seen w p s)) s)))

  followed_step : (t u : Trace w) (s : State w) → IsOk t.outcome → IsOk u.outcome →
      apply (written (followed t u).outcome) s ≡ apply (written u.outcome) (apply (written t.outcome) s)
  followed_step t u s first then_ok =
      elim t.outcome as (λ o. let v : Trace w = record { reads = t.reads; outcome = o; before = t.before } in IsOk o →
      apply (written (followed v u).outcome) s ≡ apply (written u.outcome) (apply (written o) s)) [
        | Ok xs ↦ λ ok.
            elim u.outcome as (λ o. let v : Trace w = record { reads = t.reads; outcome = Ok xs; before = t.before } in
            let r : Trace w = record { reads = u.reads; outcome = o; before = u.before } in IsOk o →
            apply (written (followed v r).outcome) s ≡ apply (written o) (apply xs s))
            [ Ok ys ↦ λ ok'. apply-together w.is_order xs ys s | Err why ↦ λ ok'. cc ] then_ok
        | Err why ↦ λ ok. cc
      ] first

  pub both_step : (e d : EditTree w) (s : State w) → IsOk (outcome e s) → IsOk (outcome d (step e s)) → step (both e d) s ≡ step d (step e s)
  both_step e d s first then_ok =
      ap (λ t. apply (written t.outcome) s) (both_trace e d s) ∙ followed_step (trace e s) (trace d (step e s)) s first then_ok

pub both_law : (w : Schema) → BothLaw w
both_law w e d s = (both_trace e d s, both_step e d s)

-- ---- a transaction

module _ {w : Schema} where
  -- what an edit did, where a refusal says f of what it said
  abbrev told : (w.Refusal → w.Refusal) → Trace w → Trace w
  told f t = record { reads = t.reads; outcome = elim t.outcome [ Ok xs ↦ Ok xs | Err why ↦ Err (f why) ]; before = t.before }

  told_trace : (f : w.Refusal → w.Refusal) (e : EditTree w) (s : State w) → trace (refused_as f e) s ≡ told f (trace e s)
  told_trace f (refuse why) s = refl
  told_trace f (write xs) s = refl
  told_trace f (look p next) s = ap (looked p) (told_trace f (next (seen w p s)) s)

  told_step : (f : w.Refusal → w.Refusal) (e : EditTree w) (s : State w) → step (refused_as f e) s ≡ step e s
  told_step f (refuse why) s = refl
  told_step f (write xs) s = refl
  told_step f (look p next) s = told_step f (next (seen w p s)) s

  -- once edit e was refused, the others do nothing
  refused_before : (m : ℕ → w.Refusal → w.Refusal) (e : EditTree w) (i : ℕ) (ds : List (EditTree w)) (s : State w) (why : w.Refusal) → outcome e s ≡ Err why →
      trace (all_from m e i ds) s ≡ trace e s
  refused_before m e i [] s why is = refl
  refused_before m e i (d ∷ ds) s why is =
      let same : trace (both e (refused_as (m i) d)) s ≡ trace e s = both_trace e (refused_as (m i) d) s ∙ rw is refl in
      refused_before m (both e (refused_as (m i) d)) (i + 1) ds s why (ap (λ t. t.outcome) same ∙ is) ∙ same

  all_from-append : (m : ℕ → w.Refusal → w.Refusal) (e : EditTree w) (i : ℕ) (es ds : List (EditTree w)) →
      all_from m e i (es ++ ds) ≡ all_from m (all_from m e i es) (i + length es) ds
  all_from-append m e i [] ds = ap (λ n. all_from m e n ds) (let same : i ≡ i + 0 = omega arith in same)
  all_from-append m e i (d ∷ es) ds =
      all_from-append m (both e (refused_as (m i) d)) (i + 1) es ds
      ∙ ap (λ n. all_from m (all_from m e i (d ∷ es)) n ds) (let same : i + 1 + length es ≡ i + suc (length es) = omega arith in same)

  all_of-append : (m : ℕ → w.Refusal → w.Refusal) (es ds : List (EditTree w)) → all_of m (es ++ ds) ≡ all_from m (all_of m es) (length es) ds
  all_of-append m es ds =
      all_from-append m (write []) 0 es ds ∙ ap (λ n. all_from m (all_of m es) n ds) (let same : 0 + length es ≡ length es = omega arith in same)

  -- whether one of the edits in force wrote the cell
  abbrev wrote : List (Option (Trace w)) → w.Cell → Bool
  wrote [] c = false
  wrote (Some t ∷ ts) c = writes t c || wrote ts c
  wrote (None ∷ ts) c = wrote ts c

  wrote-some : (ts : List (Option (Trace w))) (c : w.Cell) → wrote ts c ≡ true → (k : ℕ) × (t : Trace w) × InForce ts k t × (writes t c ≡ true)
  wrote-some [] c e = cc
  wrote-some (Some t ∷ ts) c e =
      elim (writes t c) as (λ b. writes t c ≡ b → b || wrote ts c ≡ true → (k : ℕ) × (u : Trace w) × InForce (Some t ∷ ts) k u × (writes u c ≡ true)) [
        | true ↦ λ h f. (zero, t, refl, h)
        | false ↦ λ h f. let found = wrote-some ts c f in (suc found.0, found.1, found.2, found.3)
      ] refl e
  wrote-some (None ∷ ts) c e = let found = wrote-some ts c e in (suc found.0, found.1, found.2, found.3)

  some-wrote : (ts : List (Option (Trace w))) (c : w.Cell) (k : ℕ) (t : Trace w) → InForce ts k t → writes t c ≡ true → wrote ts c ≡ true
  some-wrote [] c k t is e = cc
  some-wrote (Some u ∷ ts) c zero t is e = let same : u ≡ t = cc in rw (same, e) refl
  some-wrote (None ∷ ts) c zero t is e = cc
  some-wrote (Some u ∷ ts) c (suc k) t is e = or_right _ _ (some-wrote ts c k t is e)
  some-wrote (None ∷ ts) c (suc k) t is e = some-wrote ts c k t is e

  -- two edits that are accepted, as one
  followed_ok : (t u : Trace w) → IsOk t.outcome → IsOk u.outcome →
      IsOk (followed t u).outcome × ((followed t u).reads ≡ t.reads ++ u.reads) × ((followed t u).before ≡ t.before ++ others w.order t.before u.before)
  followed_ok t u first next =
      elim t.outcome as (λ o. let v : Trace w = record { reads = t.reads; outcome = o; before = t.before } in IsOk o →
      IsOk (followed v u).outcome × ((followed v u).reads ≡ t.reads ++ u.reads) × ((followed v u).before ≡ t.before ++ others w.order t.before u.before)) [
        | Ok xs ↦ λ ok.
            elim u.outcome as (λ o. let v : Trace w = record { reads = t.reads; outcome = Ok xs; before = t.before } in
            let r : Trace w = record { reads = u.reads; outcome = o; before = u.before } in IsOk o →
            IsOk (followed v r).outcome × ((followed v r).reads ≡ t.reads ++ u.reads) × ((followed v r).before ≡ t.before ++ others w.order t.before u.before))
            [ Ok ys ↦ λ ok'. (refl, refl, refl) | Err why ↦ λ ok'. cc ] next
        | Err why ↦ λ ok. cc
      ] first

  -- the second of two is refused
  followed_err : (t u : Trace w) (why : w.Refusal) → IsOk t.outcome → u.outcome ≡ Err why →
      ((followed t u).outcome ≡ Err why) × ((followed t u).reads ≡ t.reads ++ u.reads)
  followed_err t u why first next =
      elim t.outcome as (λ o. let v : Trace w = record { reads = t.reads; outcome = o; before = t.before } in IsOk o →
      ((followed v u).outcome ≡ Err why) × ((followed v u).reads ≡ t.reads ++ u.reads))
      [ Ok xs ↦ λ ok. rw next (refl, refl) | Err other ↦ λ ok. cc ] first

  told_ok : (f : w.Refusal → w.Refusal) (t : Trace w) → IsOk t.outcome → IsOk (told f t).outcome
  told_ok f t ok =
      elim t.outcome as (λ o. let v : Trace w = record { reads = t.reads; outcome = o; before = t.before } in IsOk o → IsOk (told f v).outcome)
      [ Ok xs ↦ λ h. refl | Err why ↦ λ h. cc ] ok

  told_err : (f : w.Refusal → w.Refusal) (t : Trace w) (why : w.Refusal) → t.outcome ≡ Err why → (told f t).outcome ≡ Err (f why)
  told_err f t why is = rw is refl

-- What a transaction did, that begins with an edit of trace t and leaves state r after it, where all of ts are accepted.
record Goes {w : Schema} (t : Trace w) (ts : List (Option (Trace w))) (r : State w) (all : Trace w) (s : State w) : Type 0 where
  accepted : IsOk all.outcome
  stepped : apply (written all.outcome) s ≡ r
  read : all.reads ≡ t.reads ++ all_reads ts
  cells : (c : w.Cell) → writes all c ≡ writes t c || wrote ts c
  once : AllOnce w.order t.before → ((k : ℕ) (u : Trace w) → InForce ts k u → AllOnce w.order u.before) → AllOnce w.order all.before

module _ {w : Schema} where
  goes : (m : ℕ → w.Refusal → w.Refusal) (e : EditTree w) (i : ℕ) (ds : List (EditTree w)) (s r : State w) → IsOk (outcome e s) → step e s ≡ r →
      ((k : ℕ) (u : Trace w) → InForce (traces_from (map done ds) r) k u → IsOk u.outcome) →
      Goes (trace e s) (traces_from (map done ds) r) (replay_from (map done ds) r) (trace (all_from m e i ds) s) s
  goes m e i [] s r ok is all = record {
    accepted = ok;
    stepped = is;
    read = sym (append-nil (reads e s));
    cells = λ c. elim (writes (trace e s) c) as (λ b. b ≡ b || false) [ true ↦ refl | false ↦ refl ];
    once = λ first rest. first;
  }
  goes m e i (d ∷ ds) s r ok is all =
      let f = m i in
      let e' : EditTree w = both e (refused_as f d) in
      let t = trace e s in
      let u = trace d r in
      let v : Trace w = told f u in
      let made : trace e' s ≡ followed t v =
      both_trace e (refused_as f d) s ∙ ap (λ q. followed t (trace (refused_as f d) q)) is ∙ ap (followed t) (told_trace f d r) in
      let accepted : IsOk u.outcome = all zero u refl in
      let known = followed_ok t v ok (told_ok f u accepted) in
      let ok' : IsOk (outcome e' s) = subst (λ q. IsOk q.outcome) (sym made) known.0 in
      let first : reads e' s ≡ t.reads ++ u.reads = ap (λ q. q.reads) made ∙ known.1 in
      let before : (trace e' s).before ≡ t.before ++ others w.order t.before u.before = ap (λ q. q.before) made ∙ known.2 in
      let left : step e' s ≡ step d r =
      both_step e (refused_as f d) s ok (subst (λ q. IsOk (outcome (refused_as f d) q)) (sym is)
      (subst (λ q. IsOk q.outcome) (sym (told_trace f d r)) (told_ok f u accepted)))
      ∙ ap (step (refused_as f d)) is ∙ told_step f d r in
      let rest = goes m e' (i + 1) ds s (step d r) ok' left (λ k q there. all (suc k) q there) in
      let ts = traces_from (map done ds) (step d r) in
      record {
        accepted = rest.accepted;
        stepped = rest.stepped;
        read = rest.read ∙ ap (λ ps. ps ++ all_reads ts) first ∙ append_assoc t.reads u.reads (all_reads ts);
        cells = λ c. rest.cells c ∙ ap (λ b. b || wrote ts c) (ap (λ ys. changes w.order ys c) before ∙ cells-append w.is_order t.before u.before c) ∙ or_or (writes t c) (writes u c) (wrote ts c);
        once = λ one others_once. rest.once (subst (AllOnce w.order) (sym before) (once-before w.is_order t.before u.before one (others_once zero u refl))) (λ k q there. others_once (suc k) q there);
      }

  -- one of the others is refused
  halts : (m : ℕ → w.Refusal → w.Refusal) (e : EditTree w) (i : ℕ) (ds : List (EditTree w)) (s r : State w) (k : ℕ) (why : w.Refusal) → IsOk (outcome e s) →
      step e s ≡ r → IsFirstRefused (traces_from (map done ds) r) k why →
      (outcome (all_from m e i ds) s ≡ Err (m (i + k) why)) × (reads (all_from m e i ds) s ≡ reads e s ++ all_reads (take (suc k) (traces_from (map done ds) r)))
  halts m e i [] s r k why ok is at = let h = at.there in cc
  halts m e i (d ∷ ds) s r zero why ok is at =
      let f = m i in
      let e' : EditTree w = both e (refused_as f d) in
      let t = trace e s in
      let u = trace d r in
      let v : Trace w = told f u in
      let made : trace e' s ≡ followed t v =
      both_trace e (refused_as f d) s ∙ ap (λ q. followed t (trace (refused_as f d) q)) is ∙ ap (followed t) (told_trace f d r) in
      let there = at.there in
      let same : at.of_k ≡ u = cc in
      let refused : u.outcome ≡ Err why = ap (λ q. q.outcome) (sym same) ∙ at.refused in
      let known = followed_err t v (f why) ok (told_err f u why refused) in
      let no : outcome e' s ≡ Err (f why) = ap (λ q. q.outcome) made ∙ known.0 in
      let ends : trace (all_from m e' (i + 1) ds) s ≡ trace e' s = refused_before m e' (i + 1) ds s (f why) no in (
        ap (λ q. q.outcome) ends ∙ no ∙ ap (λ n. Err (m n why)) (let same : i ≡ i + 0 = omega arith in same),
        ap (λ q. q.reads) ends ∙ ap (λ q. q.reads) made ∙ known.1 ∙ ap (λ ps. t.reads ++ ps) (sym (append-nil u.reads)),
      )
  halts m e i (d ∷ ds) s r (suc k) why ok is at =
      let f = m i in
      let e' : EditTree w = both e (refused_as f d) in
      let t = trace e s in
      let u = trace d r in
      let v : Trace w = told f u in
      let made : trace e' s ≡ followed t v =
      both_trace e (refused_as f d) s ∙ ap (λ q. followed t (trace (refused_as f d) q)) is ∙ ap (followed t) (told_trace f d r) in
      let accepted : IsOk u.outcome = at.before zero u (omega arith) refl in
      let known = followed_ok t v ok (told_ok f u accepted) in
      let ok' : IsOk (outcome e' s) = subst (λ q. IsOk q.outcome) (sym made) known.0 in
      let first : reads e' s ≡ t.reads ++ u.reads = ap (λ q. q.reads) made ∙ known.1 in
      let left : step e' s ≡ step d r =
      both_step e (refused_as f d) s ok (subst (λ q. IsOk (outcome (refused_as f d) q)) (sym is)
      (subst (λ q. IsOk q.outcome) (sym (told_trace f d r)) (told_ok f u accepted)))
      ∙ ap (step (refused_as f d)) is ∙ told_step f d r in
      let ts = traces_from (map done ds) (step d r) in
      let rest = halts m e' (i + 1) ds s (step d r) k why ok' left
      (record { of_k = at.of_k; there = at.there; refused = at.refused; before = λ j q low there. at.before (suc j) q (omega arith) there }) in (
        rest.0 ∙ ap (λ n. Err (m n why)) (let same : i + 1 + k ≡ i + suc k = omega arith in same),
        rest.1 ∙ ap (λ ps. ps ++ all_reads (take (suc k) ts)) first ∙ append_assoc t.reads u.reads (all_reads (take (suc k) ts)),
      )

pub all_of_law : (w : Schema) → AllOfLaw w
all_of_law w m es s =
    let first : EditTree w = write [] in
    let ts = traces_from (map done es) s in (
      λ all.
          let g = goes m first 0 es s s refl refl all in (
            g.accepted,
            g.stepped,
            g.read,
            λ c. (
              λ e. wrote-some ts c (sym (g.cells c) ∙ e),
              λ found. g.cells c ∙ some-wrote ts c found.0 found.1 found.2 found.3,
            ),
            λ once. g.once tt once,
          ),
      λ k why at.
          let h = halts m first 0 es s s k why refl refl at in (
            h.0 ∙ ap (λ n. Err (m n why)) (let same : 0 + k ≡ k = omega arith in same),
            h.1,
          ),
    )

pub front_law : (w : Schema) → FrontLaw w
front_law w m es ds = (
  all_of-append m es ds,
  λ s why is. ap (λ e. trace e s) (all_of-append m es ds) ∙ refused_before m (all_of m es) (length es) ds s why is,
)
