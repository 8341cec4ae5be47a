-- What a program does with a state and a log: it goes by what it keeps, and never replays.
use Rattle.std.specs.Prelude.{◌≡◌, ℕ, List, [], ◌∷◌, ◌++◌, Some, None, IsOk, slice_get, slice_set}
use Rattle.std.specs.FinMap.{empty}
use Rattle.selective_undo.specs.Changes.{apply}
use Rattle.selective_undo.specs.Edit.{Schema, State, EditTree, outcome, trace, step}
use Rattle.selective_undo.specs.Log.{Footprint, Logged, planned, undo_blocker, redo_blocker, logged_done, logged_undone}

-- One granted request, and the state and log after it.
pub data Granted {w : Schema} (s : State w) (log : List (Logged w)) : State w → List (Logged w) → Type 0 where
  -- an edit that is accepted comes at the end, with what it read and wrote over
  edited : (e : EditTree w) → IsOk (outcome e s) → Granted s log (step e s) (log ++ logged_done e (trace e s) ∷ [])
  -- an edit that nothing kept later meets is taken back by what is kept of it
  undid : (k : ℕ) (e : EditTree w) (f : Footprint w) → slice_get log k ≡ Some (record { edit = e; kept = Some f }) → undo_blocker log k f.touched ≡ None
      → Granted s log (apply f.touched s) (slice_set log k (logged_undone e))
  -- an edit out of force that is accepted, and meets nothing kept later, comes back in its place
  redid : (k : ℕ) (e : EditTree w) → slice_get log k ≡ Some (logged_undone e) → IsOk (outcome e s) → redo_blocker log k (planned e s) ≡ None
      → Granted s log (step e s) (slice_set log k (logged_done e (trace e s)))

-- The state and log after some granted requests, one after another, from nothing.
pub data Run {w : Schema} : State w → List (Logged w) → Type 0 where
  begins : Run empty []
  goes_on : {s t : State w} {log more : List (Logged w)} → Run s log → Granted s log t more → Run t more
