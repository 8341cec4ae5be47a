-- What is locked at a desk whose changes are kept, and when its turns stand for its course.
use Rattle.std.specs.Prelude.{◌≡◌, ℕ, Bool, true, List, ◌++◌}
use mathlib.Core.List.{IsPrefix}
use Rattle.wb_kept.specs.Runs.{Leads}
use Rattle.wb_kept.specs.Sessions.{IsFront}
use Rattle.wb_kept_group.specs.Together.{changes_in}
use Rattle.wb_history.specs.Past.{Past}
use Rattle.wb_keeping.specs.Granting.Granting.{Grants, no_edit}
use Rattle.wb_desk.specs.Courses.{Course, Marked, Tells, Runs, all_of}
use Rattle.wb_desk.specs.declared.entry.Entry.{Entry}
use Rattle.wb_desk.specs.Locked.{Locked}

-- Its course and the total of its ledger; all turns that were made, each the changes that it made, and those of them that were taken to
-- be kept; the changes of the turn under way; and whether there may be more.
pub record KeptCourse : Type 0 where
  pub course : Course
  pub total : ℕ
  pub taken : List (List (List ℕ))
  pub made : List (List (List ℕ))
  pub waiting : List (List ℕ)
  pub is_open : Bool

abbrev pub kept_course : Locked → List (List (List ℕ)) × List (List (List ℕ)) → List (List ℕ) → Bool → KeptCourse
kept_course locked turns waiting is_open =
    record { course = locked.course; total = locked.total; taken = turns.0; made = turns.1; waiting = waiting; is_open = is_open }

-- The lines lead from the empty history to the one after the first so many entries, from the opening.
pub record StandsForFront (opening : Past) (entries : List Entry) (lines : List (List ℕ)) : Type 0 where
  pub front : List Entry
  pub is_front : IsFront front entries
  pub history : Past
  pub run : Runs opening front history
  pub leads : Leads Grants no_edit lines history

-- so do the lines of the opening with the changes of each front of the turns behind them
abbrev pub EachFrontStands : Past → List (List ℕ) → List Entry → List (List (List ℕ)) → Type 0
EachFrontStands opening lines entries turns =
    (front : List (List (List ℕ))) → IsPrefix front turns → StandsForFront opening entries (lines ++ changes_in front)

-- It is a course from the opening, and each front of the turns stands for a front of all its entries. While it is open, the lines of the
-- opening, with the changes of all turns and of the one under way behind them, lead to its history.
pub record IsKeptCourse (opening : Past) (lines : List (List ℕ)) (k : KeptCourse) : Type 0 where
  pub all : List Marked
  pub tells : Tells opening all k.course
  pub fronts : EachFrontStands opening lines (all_of all) k.made
  pub leads : k.is_open ≡ true → Leads Grants no_edit ((lines ++ changes_in k.made) ++ k.waiting) k.course.history

-- some entries are all of a course, and each front of the turns stands for a front of them
abbrev pub EachFrontStandsIn : Past → List (List ℕ) → Course → List (List (List ℕ)) → Type 0
EachFrontStandsIn opening lines c turns = (all : List Marked) × Tells opening all c × EachFrontStands opening lines (all_of all) turns
