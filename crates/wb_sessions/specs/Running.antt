-- Sessions of the program, and the exit status after each.
use Rattle.std.specs.Prelude.{◌≡◌, ◌⊎◌, ℕ, ◌≤◌, List, [], Bool, true, Option}
use Rattle.wb_history.specs.Past.{Past}
use Rattle.wb_lines.specs.Causes.{RisesBy}
use Rattle.wb_lines.specs.Reading.{read_limit}
use Rattle.wb_lines.specs.Session.{Serves}
use Rattle.wb_lines.specs.declared.machine.SessionEnd.{SessionEnd}
use Rattle.wb_lines.specs.declared.machine.SessionEnd.TheVariants.{Done, ReadFault, WriteFault, TooManyReads, NoMemory}
use Rattle.wb_machine.specs.Machine.{AnswersText}

-- 0 where all was answered, 3 where input or output failed, 4 where a growth was refused
abbrev pub status_of : SessionEnd → ℕ
status_of (Done n) = 0
status_of (ReadFault n) = 3
status_of (WriteFault n) = 3
status_of (TooManyReads n) = 3
status_of (NoMemory n) = 4

-- the latest read failed, or all reads that are allowed were made, or the latest write or flush failed
abbrev pub HasFailed : (read_failed : Bool) → (before after : ℕ) → (write_failed : Bool) → Type 0
HasFailed read_failed before after write_failed = (read_failed ≡ true) ⊎ (RisesBy read_limit before after ⊎ (write_failed ≡ true))

-- the latest read failed, or at least as many reads as are allowed were made, or the latest write or flush failed
abbrev pub HasFailedByNow : (read_failed : Bool) → (before after : ℕ) → (write_failed : Bool) → Type 0
HasFailedByNow read_failed before after write_failed =
    (read_failed ≡ true) ⊎ (((made : ℕ) × (read_limit ≤ made) × RisesBy made before after) ⊎ (write_failed ≡ true))

-- no edits yet
abbrev pub opening : Past
opening = record { entries = []; writes = 0 }

-- A session on an empty workbook that read these bytes, with these left, wrote this text and ended so.
pub record ServesFromEmpty (end : SessionEnd) (read : List ℕ) (left : Option (List ℕ)) (text : List ℕ) : Type 0 where
  pub after : Past
  pub serves : Serves AnswersText end opening read left text after
