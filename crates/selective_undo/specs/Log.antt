-- A log of edits as a program keeps it: with each edit in force a record of what it read and what it wrote over, so that no undo has to replay.
use Rattle.std.specs.Prelude.{◌≡◌, ℕ, suc, slice_get, drop, ◌+◌, ◌≤◌, ◌<◌, Bool, true, false, ◌||◌, List, [], ◌∷◌, map, Option, Some, None, option_map, ◌⊎◌}
use Rattle.std.specs.Prelude.{if◌then◌else◌}
use Rattle.std.specs.List.{list_any}
use Rattle.selective_undo.specs.Changes.{changes}
use Rattle.selective_undo.specs.Edit.{Schema, State, Change, EditTree, Trace, covers, reads, outcome, written, Needs}
use Rattle.selective_undo.specs.History.{Entry, done, undone, InForce, IsLegal, replay, traces}

-- What an edit read, and the cells that it wrote, with the values that they had.
pub record Footprint (w : Schema) : Type 0 where
  pub reads : List w.Pattern
  pub touched : List (Change w)

-- An edit, with its footprint if it is in force.
pub record Logged (w : Schema) : Type 0 where
  pub edit : EditTree w
  pub kept : Option (Footprint w)

module _ {w : Schema} where
  -- what is kept of a trace
  abbrev pub footprint_of : Trace w → Footprint w
  footprint_of t = record { reads = t.reads; touched = t.before }

  -- and of each trace of a history
  abbrev pub footprints : List (Option (Trace w)) → List (Option (Footprint w))
  footprints ts = map (option_map footprint_of) ts

  -- an edit is in force where something is kept of it
  abbrev pub entry_by : EditTree w → Option (Footprint w) → Entry w
  entry_by e (Some f) = done e
  entry_by e None = undone e

  -- an entry of the log as one of a history
  abbrev pub entry_of : Logged w → Entry w
  entry_of x = entry_by x.edit x.kept

  -- the history that the log stands for
  abbrev pub history : List (Logged w) → List (Entry w)
  history log = map entry_of log

  -- whether an edit with footprint f reads or writes one of the cells
  abbrev pub meets_any : Footprint w → List (Change w) → Bool
  meets_any f xs = list_any (λ x. changes w.order f.touched x.cell || covers w f.reads x.cell) xs

  -- whether an edit in force needs one that wrote the cells of xs
  abbrev pub blocks_undo : List (Change w) → Option (Footprint w) → Bool
  blocks_undo xs None = false
  blocks_undo xs (Some f) = meets_any f xs

  -- whether an edit in force and one with footprint g need one another
  abbrev pub blocks_redo : Footprint w → Option (Footprint w) → Bool
  blocks_redo g None = false
  blocks_redo g (Some f) = meets_any f g.touched || meets_any g f.touched

  -- what an edit would read and write in a state, with the values that it would write
  abbrev pub planned : EditTree w → State w → Footprint w
  planned e s = record { reads = reads e s; touched = written (outcome e s) }

-- the place of the first that passes, where i is the place of the first of all
abbrev pub first_from : {X : Type 0} → (X → Bool) → ℕ → List X → Option ℕ
first_from p i [] = None
first_from p i (x ∷ xs) = if p x then Some i else first_from p (i + 1) xs

module _ {w : Schema} where
  -- the first edit after k that, by what is kept, blocks the undo of changes xs
  abbrev pub undo_blocker : List (Logged w) → ℕ → List (Change w) → Option ℕ
  undo_blocker log k xs = first_from (blocks_undo xs) (suc k) (drop (suc k) (map (λ x. x.kept) log))

  -- and the redo of an edit with footprint g
  abbrev pub redo_blocker : List (Logged w) → ℕ → Footprint w → Option ℕ
  redo_blocker log k g = first_from (blocks_redo g) (suc k) (drop (suc k) (map (λ x. x.kept) log))

  -- how an edit stands in a log: in force, with what is kept of its trace
  abbrev pub logged_done : EditTree w → Trace w → Logged w
  logged_done e t = record { edit = e; kept = Some (footprint_of t) }

  -- and out of force
  abbrev pub logged_undone : EditTree w → Logged w
  logged_undone e = record { edit = e; kept = None }

-- The log is legal, the state is its replay, and what is kept of each edit in force is what it does in that replay.
pub record IsKept {w : Schema} (s : State w) (log : List (Logged w)) : Type 0 where
  pub legal : IsLegal (history log)
  pub shown : s ≡ replay (history log)
  pub footprints : map (λ x. x.kept) log ≡ footprints (traces (history log))

-- The least number with the property.
pub record Least (P : ℕ → Type 0) (j : ℕ) : Type 0 where
  pub holds : P j
  pub least : (i : ℕ) → P i → j ≤ i

-- Edit j blocks the redo of edit k, which would have trace t: j is later and in force, and one of the two needs the other.
pub record BlocksRedo {w : Schema} (ts : List (Option (Trace w))) (k : ℕ) (t : Trace w) (j : ℕ) : Type 0 where
  pub later : k < j
  pub of_j : Trace w
  pub j_in_force : InForce ts j of_j
  pub meets : Needs of_j t ⊎ Needs t of_j

-- The record of the later edit j meets a cell of the changes.
pub record RecordBlocksUndo {w : Schema} (log : List (Logged w)) (k : ℕ) (xs : List (Change w)) (j : ℕ) : Type 0 where
  pub later : k < j
  pub entry : Logged w
  pub there : slice_get log j ≡ Some entry
  pub meets : blocks_undo xs entry.kept ≡ true

-- The record of the later edit j and footprint g meet, one way or the other.
pub record RecordBlocksRedo {w : Schema} (log : List (Logged w)) (k : ℕ) (g : Footprint w) (j : ℕ) : Type 0 where
  pub later : k < j
  pub entry : Logged w
  pub there : slice_get log j ≡ Some entry
  pub meets : blocks_redo g entry.kept ≡ true
