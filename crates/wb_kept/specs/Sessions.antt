-- What a session does, up to its end.
use Rattle.std.specs.Prelude.{◌≡◌, ◌<◌, ◌≤◌, ℕ, List, ◌++◌, length, take, Option, Bool, true}
use Rattle.std.specs.Io.KnownBytes.{Appends, Consumes, IsAtEnd}
use Rattle.wb_keep.specs.Disk.Device.{LeavesOnly}
use Rattle.wb_keep.specs.Lines.{recovered}
use Rattle.wb_lines.specs.Causes.{RisesBy}
use Rattle.wb_lines.specs.Lines.{lines, whole_lines, finished_lines}
use Rattle.wb_lines.specs.Reading.{read_limit}
use Rattle.wb_kept.specs.Runs.{Step, Run, lines_asked, replies_of, changes_of}
use Rattle.wb_kept.specs.Keeping.{IsKept, StandsFor}
use Rattle.wb_kept.specs.declared.kept.Kept.{Kept}
use Rattle.wb_kept.specs.declared.session.KeptEnd.{KeptEnd}
use Rattle.wb_kept.specs.declared.session.KeptEnd.TheVariants as ends

-- the second begins with the first
abbrev pub IsFront : {T : Type 0} → List T → List T → Type 0
IsFront xs ys = (rest : List _) × (ys ≡ xs ++ rest)

-- how many lines were answered, kept, and their replies given out
abbrev pub count_of : KeptEnd → ℕ
count_of (ends.Done count) = count
count_of (ends.ReadFault count) = count
count_of (ends.TooManyReads count) = count
count_of (ends.WriteFault count) = count
count_of (ends.NoMemory count) = count
count_of (ends.DiskFault count) = count

-- from the bytes that were read, with these left, by these steps, to the text that was written
abbrev pub Serves : KeptEnd → (read : List ℕ) → (left : Option (List ℕ)) → List Step → List ℕ → Type 0
Serves (ends.Done count) read left steps text = (lines read ≡ lines_asked steps) × (text ≡ replies_of steps) × (count ≡ length steps)
Serves (ends.ReadFault count) read left steps text = (whole_lines read ≡ lines_asked steps) × (text ≡ replies_of steps) × (count ≡ length steps)
Serves (ends.TooManyReads count) read left steps text = (whole_lines read ≡ lines_asked steps) × (text ≡ replies_of steps) × (count ≡ length steps)
-- the changes of all were kept, and of the replies a front was written
Serves (ends.WriteFault count) read left steps text = IsFront (lines_asked steps) (finished_lines read left) × IsFront text (replies_of steps) × (count ≡ length steps)
-- behind the first `count` steps are those of a turn that was perhaps kept, and of whose replies nothing was written
Serves (ends.NoMemory count) read left steps text = IsFront (lines_asked steps) (finished_lines read left) × (text ≡ replies_of (take count steps)) × (count ≤ length steps)
Serves (ends.DiskFault count) read left steps text = IsFront (lines_asked steps) (finished_lines read left) × (text ≡ replies_of (take count steps)) × (count ≤ length steps)

-- after these ends, what is kept may serve on
abbrev pub IfWell : KeptEnd → Type 0 → Type 0
IfWell (ends.Done count) P = P
IfWell (ends.ReadFault count) P = P
IfWell (ends.TooManyReads count) P = P
IfWell (ends.WriteFault count) P = P
IfWell (ends.NoMemory count) P = Unit {0}
IfWell (ends.DiskFault count) P = Unit {0}

-- The bytes that were read, the text that was written, and the one run of the machine that both belong to, as do all files
-- that a crash may leave or might have left.
pub record Session {S D : Type 0} (start : S) (grants : S → List ℕ → S → Type 0) (answers : S → List ℕ → List ℕ → List (List ℕ) → S → Type 0)
    (seen : D → List ℕ) (may_leave : D → List ℕ → Type 0) (moment : D → ℕ) (left_since : D → ℕ → List ℕ → Type 0)
    (end : KeptEnd) (old new : Kept S D) (unread left sent told : Option (List ℕ)) : Type 0 where
  pub read : List ℕ
  pub consumed : Consumes unread left read
  pub text : List ℕ
  pub written : Appends sent told text
  pub steps : List Step
  pub last : S
  pub run : Run answers old.state steps last
  pub serves : Serves end read left steps text
  -- a crash at any moment of the session leaves the state after some of the steps
  pub any_moment : LeavesOnly moment left_since old.log.device new.log.device
      (StandsFor start grants answers (recovered (seen old.log.device)) old.state steps 0)
  -- a crash at its end, after all those whose replies were given out, at least
  pub at_least : (file : List ℕ) → may_leave new.log.device file
      → StandsFor start grants answers (recovered (seen old.log.device)) old.state steps (count_of end) file
  pub kept : IfWell end (IsKept start grants seen may_leave new × (new.state ≡ last)
      × (recovered (seen new.log.device) ≡ recovered (seen old.log.device) ++ changes_of steps))

-- why a session reads no more: no byte is left, or the latest read failed, or all reads that are allowed were made
abbrev pub ReadsUntil : KeptEnd → Option (List ℕ) → Bool → ℕ → ℕ → Type 0
ReadsUntil (ends.Done count) left failed before after = IsAtEnd left
ReadsUntil (ends.ReadFault count) left failed before after = failed ≡ true
ReadsUntil (ends.TooManyReads count) left failed before after = RisesBy read_limit before after
ReadsUntil (ends.WriteFault count) left failed before after = Unit {0}
ReadsUntil (ends.NoMemory count) left failed before after = Unit {0}
ReadsUntil (ends.DiskFault count) left failed before after = Unit {0}

-- how a session leaves its writer: flushed, or the latest write or flush failed
abbrev pub WritesUntil : KeptEnd → (flushed failed : Bool) → Type 0
WritesUntil (ends.Done count) flushed failed = flushed ≡ true
WritesUntil (ends.ReadFault count) flushed failed = flushed ≡ true
WritesUntil (ends.TooManyReads count) flushed failed = flushed ≡ true
WritesUntil (ends.WriteFault count) flushed failed = failed ≡ true
WritesUntil (ends.NoMemory count) flushed failed = Unit {0}
WritesUntil (ends.DiskFault count) flushed failed = Unit {0}

-- where it ends for the file, that has failed since
abbrev pub KeepsUntil : KeptEnd → (before after : ℕ) → Type 0
KeepsUntil (ends.Done count) before after = Unit {0}
KeepsUntil (ends.ReadFault count) before after = Unit {0}
KeepsUntil (ends.TooManyReads count) before after = Unit {0}
KeepsUntil (ends.WriteFault count) before after = Unit {0}
KeepsUntil (ends.NoMemory count) before after = Unit {0}
KeepsUntil (ends.DiskFault count) before after = before < after
