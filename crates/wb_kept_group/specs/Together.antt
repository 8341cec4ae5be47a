-- Turns, each the changes that it made, in a file.
use Rattle.std.specs.Prelude.{ℕ, ◌≡◌, ◌<◌, ◌≤◌, ◌^◌, List, ◌++◌}
use Rattle.std.specs.List.{flat_map}
use Rattle.wb_keep.specs.Disk.Device.{LeavesOnly}
use Rattle.wb_keep.specs.Lines.{recovered}
use Rattle.wb_keep.specs.Keep.{IsSettled, IsBeforeOrAfter}
use Rattle.wb_keep.specs.declared.keep.AppendErr.{AppendErr}
use Rattle.wb_keep.specs.declared.keep.AppendErr.TheVariants.{Failed, Full, Memory}
use Rattle.wb_keep.specs.declared.keep.LineLog.{LineLog}

-- the changes of these turns, in order
abbrev pub changes_in : List (List (List ℕ)) → List (List ℕ)
changes_in turns = flat_map (λ turn. turn) turns

-- What an error tells of a call that adds lines to a log: that there was no memory, and the log is as it was; that its file failed in the
-- call; or that it had no room, since it had 2^60 bytes, and is as it was.
abbrev pub Tells : {D : Type 0} → (D → ℕ) → AppendErr → (old new : LineLog D) → Type 0
Tells faults Memory old new = new ≡ old
Tells faults Failed old new = faults old.device < faults new.device
Tells faults Full old new = (2 ^ 60 ≤ old.mark) × (new ≡ old)

-- Some turns were to be kept as one batch behind those that the file had, all of it on the disk. A crash at any moment of that
-- leaves all of their changes or none. Where it ended for a fault, the file has failed in it; for want of memory or room, it is as it was.
pub record IsGivenUp {D : Type 0} (seen : D → List ℕ) (may_leave : D → List ℕ → Type 0) (moment : D → ℕ) (left_since : D → ℕ → List ℕ → Type 0) (faults : D → ℕ)
    (opening : List (List ℕ)) (fault want : Type 0) (old new : LineLog D) : Type 0 where
  pub before : List (List (List ℕ))
  pub turns : List (List (List ℕ))
  pub settled : IsSettled seen may_leave old
  pub lines : recovered (seen old.device) ≡ opening ++ changes_in before
  pub moments : LeavesOnly moment left_since old.device new.device (IsBeforeOrAfter (opening ++ changes_in before) (changes_in turns))
  pub failed : fault → faults old.device < faults new.device
  pub untouched : want → new ≡ old
