-- Edits and histories over plain lists of cells with values, where all computes: for worked examples of the definitions.
use Rattle.std.specs.Prelude.{not, List, [], ◌∷◌, Option, Some, None, Result, Ok, Err}
use Rattle.std.specs.Ordering.{eq_by_cmp}
use Rattle.std.specs.FinMap.Entries.{find, where_key}
use Rattle.std.specs.FinMap.Entries as sorted
use Rattle.std.specs.declared.cmp.Ordering.{Ordering}
use Rattle.selective_undo.specs.declared.Change as declared
use Rattle.selective_undo.specs.Edit.{Schema, Seen, Change, EditTree, Trace, refuse, write, look, written}
use Rattle.selective_undo.specs.History.{Entry, done, undone}

module _ {K V : Type 0} (order : K → K → Ordering) where
  -- the entries, in the order of the keys, with one cell changed
  abbrev pub put_in : declared.Change K V → List (K × V) → List (K × V)
  put_in x es = elim x.value [ Some v ↦ sorted.put order x.cell v es | None ↦ where_key order (λ k. not (eq_by_cmp order x.cell k)) es ]

  -- the entries after the changes, one after another
  abbrev pub apply_in : List (declared.Change K V) → List (K × V) → List (K × V)
  apply_in [] es = es
  apply_in (x ∷ xs) es = apply_in xs (put_in x es)

  -- the changes that set the cells of xs to what they are in es
  abbrev pub inverse_in : List (declared.Change K V) → List (K × V) → List (declared.Change K V)
  inverse_in [] es = []
  inverse_in (x ∷ xs) es = record { cell = x.cell; value = find order x.cell es } ∷ inverse_in xs es

module _ {w : Schema} where
  -- what an edit does to a state that is given as the list of its cells with their values, in order
  abbrev pub outcome_in : EditTree w → Seen w → Result (List (Change w)) w.Refusal
  outcome_in (refuse why) es = Err why
  outcome_in (write xs) es = Ok xs
  outcome_in (look p next) es = outcome_in (next (where_key w.order (w.matches p) es)) es

  -- the patterns that it looks at there
  abbrev pub reads_in : EditTree w → Seen w → List w.Pattern
  reads_in (refuse why) es = []
  reads_in (write xs) es = []
  reads_in (look p next) es = p ∷ reads_in (next (where_key w.order (w.matches p) es)) es

  -- what it does there
  abbrev pub trace_in : EditTree w → Seen w → Trace w
  trace_in e es = record { reads = reads_in e es; outcome = outcome_in e es; before = inverse_in w.order (written (outcome_in e es)) es }

  -- the list after it
  abbrev pub step_in : EditTree w → Seen w → Seen w
  step_in e es = apply_in w.order (written (outcome_in e es)) es

  -- what a history comes to, begun at such a list
  abbrev pub replay_in : List (Entry w) → Seen w → Seen w
  replay_in [] es = es
  replay_in (done e ∷ h) es = replay_in h (step_in e es)
  replay_in (undone e ∷ h) es = replay_in h es

  -- and what each edit of it in force does
  abbrev pub traces_in : List (Entry w) → Seen w → List (Option (Trace w))
  traces_in [] es = []
  traces_in (done e ∷ h) es = Some (trace_in e es) ∷ traces_in h (step_in e es)
  traces_in (undone e ∷ h) es = None ∷ traces_in h es
