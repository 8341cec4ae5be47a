-- Several edits as one: each is made in the state that those before it leave, or none is.
use Rattle.std.specs.Prelude.{◌≡◌, ℕ, ◌+◌, ◌<◌, not, if◌then◌else◌, List, [], ◌∷◌, ◌++◌, map, Option, Some, None, Ok, Err, IsOk}
use Rattle.std.specs.List.{filter}
use Rattle.std.specs.Ordering.{eq_by_cmp}
use Rattle.std.specs.FinMap.Entries.{where_key}
use Rattle.std.specs.declared.cmp.Ordering.{Ordering}
use Rattle.selective_undo.specs.declared.Change as declared
use Rattle.selective_undo.specs.Changes.{changes}
use Rattle.selective_undo.specs.Edit.{Schema, Seen, Change, EditTree, Trace, refuse, write, look}
use Rattle.selective_undo.specs.Evaluation.{apply_in}
use Rattle.selective_undo.specs.History.{InForce}

module _ {K V : Type 0} (order : K → K → Ordering) where
  -- what the changes leave in a cell that had v
  abbrev pub left_in : List (declared.Change K V) → K → Option V → Option V
  left_in [] c v = v
  left_in (x ∷ xs) c v = left_in xs c (if eq_by_cmp order c x.cell then x.value else v)

  -- the changes of ys to cells that xs leave alone
  abbrev pub others : List (declared.Change K V) → List (declared.Change K V) → List (declared.Change K V)
  others xs ys = filter (λ y. not (changes order xs y.cell)) ys

  -- xs and then ys, with each cell once: the cells of xs, with what ys leave there, and then the others of ys
  abbrev pub together : List (declared.Change K V) → List (declared.Change K V) → List (declared.Change K V)
  together xs ys = map (λ x. record { cell = x.cell; value = left_in ys x.cell x.value }) xs ++ others xs ys

-- what a pattern shows once the changes are made, where before them it showed es
abbrev pub overlaid : (w : Schema) → List (Change w) → w.Pattern → Seen w → Seen w
overlaid w xs p es = where_key w.order (w.matches p) (apply_in w.order xs es)

module _ {w : Schema} where
  -- the changes and then the edit, as one: each look of the edit shows what it would show after the changes
  abbrev pub after : List (Change w) → EditTree w → EditTree w
  after xs (refuse why) = refuse why
  after xs (write ys) = write (together w.order xs ys)
  after xs (look p next) = look p (λ es. after xs (next (overlaid w xs p es)))

  -- edit e and then edit d, as one
  abbrev pub both : EditTree w → EditTree w → EditTree w
  both (refuse why) d = refuse why
  both (write xs) d = after xs d
  both (look p next) d = look p (λ es. both (next es) d)

  -- the edit, where a refusal says f of what it said
  abbrev pub refused_as : (w.Refusal → w.Refusal) → EditTree w → EditTree w
  refused_as f (refuse why) = refuse (f why)
  refused_as f (write xs) = write xs
  refused_as f (look p next) = look p (λ es. refused_as f (next es))

  -- edit e and then the others, as one, where the first of them has place i and a refusal is told with the place
  abbrev pub all_from : (ℕ → w.Refusal → w.Refusal) → EditTree w → ℕ → List (EditTree w) → EditTree w
  all_from at_place e i [] = e
  all_from at_place e i (d ∷ ds) = all_from at_place (both e (refused_as (at_place i) d)) (i + 1) ds

  -- a transaction: all of the edits, one after another, as one
  abbrev pub all_of : (ℕ → w.Refusal → w.Refusal) → List (EditTree w) → EditTree w
  all_of at_place es = all_from at_place (write []) 0 es

  -- what an edit did and then another, as what one edit did: refused where one of them was, and with each cell's first value as the one before
  abbrev pub followed : Trace w → Trace w → Trace w
  followed t u =
      elim t.outcome [
        | Ok xs ↦
            elim u.outcome [
              | Ok ys ↦ record { reads = t.reads ++ u.reads; outcome = Ok (together w.order xs ys); before = t.before ++ others w.order t.before u.before }
              | Err why ↦ record { reads = t.reads ++ u.reads; outcome = Err why; before = [] }
            ]
        | Err why ↦ t
      ]

  -- what the edits in force read, one after another
  abbrev pub all_reads : List (Option (Trace w)) → List w.Pattern
  all_reads [] = []
  all_reads (Some t ∷ ts) = t.reads ++ all_reads ts
  all_reads (None ∷ ts) = all_reads ts

-- Edit k is the first that is refused, for the reason why.
pub record IsFirstRefused {w : Schema} (ts : List (Option (Trace w))) (k : ℕ) (why : w.Refusal) : Type 0 where
  pub of_k : Trace w
  pub there : InForce ts k of_k
  pub refused : of_k.outcome ≡ Err why
  pub before : (j : ℕ) (t : Trace w) → j < k → InForce ts j t → IsOk t.outcome
