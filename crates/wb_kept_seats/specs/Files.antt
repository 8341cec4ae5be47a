-- What the file of a desk has, and what a crash leaves of it.
use Rattle.std.specs.Prelude.{◌≡◌, ◌≤◌, ℕ, List, ◌++◌}
use mathlib.Core.List.{IsPrefix}
use Rattle.wb_keep.specs.Lines.{recovered}
use Rattle.wb_keep.specs.Keep.{IsSettled}
use Rattle.wb_keep.specs.declared.keep.LineLog.{LineLog}
use Rattle.wb_kept_group.specs.Together.{changes_in}
use Rattle.wb_history.specs.Past.{Past}
use Rattle.wb_desk.specs.Courses.{Course, Marked, Tells, all_of}
use Rattle.wb_desk.specs.declared.entry.Entry.{Entry}
use Rattle.wb_kept_seats.specs.KeptCourses.{StandsForFront}

-- A crash at any moment since the desk was opened leaves a file that has the lines of the opening, with the changes of a front of the turns
-- behind them.
pub record LeavesTurns {D : Type 0} (moment : D → ℕ) (left_since : D → ℕ → List ℕ → Type 0) (lines : List (List ℕ)) (begun : ℕ)
    (log : LineLog D) (turns : List (List (List ℕ))) : Type 0 where
  pub later : begun ≤ moment log.device
  pub each : (file : List ℕ) → left_since log.device begun file
      → (front : List (List (List ℕ))) × IsPrefix front turns × (recovered file ≡ lines ++ changes_in front)

-- The file is at rest, all of it on the disk: the lines of the opening, and behind them the changes of these turns, in order. A crash at any
-- moment since the opening left a front of them.
pub record HasTurns {D : Type 0} (seen : D → List ℕ) (may_leave : D → List ℕ → Type 0) (moment : D → ℕ) (left_since : D → ℕ → List ℕ → Type 0)
    (lines : List (List ℕ)) (begun : ℕ) (log : LineLog D) (turns : List (List (List ℕ))) : Type 0 where
  pub settled : IsSettled seen may_leave log
  pub lines_are : recovered (seen log.device) ≡ lines ++ changes_in turns
  pub any_moment : LeavesTurns moment left_since lines begun log turns

-- some file had these turns, and perhaps more behind them
pub record WasKept {D : Type 0} (seen : D → List ℕ) (may_leave : D → List ℕ → Type 0) (moment : D → ℕ) (left_since : D → ℕ → List ℕ → Type 0)
    (lines : List (List ℕ)) (begun : ℕ) (turns : List (List (List ℕ))) : Type 0 where
  pub log : LineLog D
  pub behind : List (List (List ℕ))
  pub has : HasTurns seen may_leave moment left_since lines begun log (turns ++ behind)

-- A crash at any moment since the desk was opened leaves a file that stands for a front of the entries.
pub record LeavesFronts {D : Type 0} (moment : D → ℕ) (left_since : D → ℕ → List ℕ → Type 0) (opening : Past) (begun : ℕ) (entries : List Entry)
    (log : LineLog D) : Type 0 where
  pub later : begun ≤ moment log.device
  pub each : (file : List ℕ) → left_since log.device begun file → StandsForFront opening entries (recovered file)

-- some entries are all of a course, and such a crash leaves a file that stands for a front of them
abbrev pub LeavesFrontsOf : {D : Type 0} → (D → ℕ) → (D → ℕ → List ℕ → Type 0) → (opening : Past) → (begun : ℕ) → Course → LineLog D → Type 0
LeavesFrontsOf moment left_since opening begun c log =
    (all : List Marked) × Tells opening all c × LeavesFronts moment left_since opening begun (all_of all) log
