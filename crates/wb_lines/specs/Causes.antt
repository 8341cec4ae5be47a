-- Why reading or writing stops.
use Rattle.std.specs.Prelude.{◌≡◌, ℕ, ◌+◌, ◌-◌, ◌≤◌, List, Bool, true, Option}
use Rattle.std.specs.Io.Iter.{u64_saturate}
use Rattle.std.specs.Io.KnownBytes.{IsAtEnd}
use Rattle.wb_lines.specs.Reading.{Reading, read_limit}
use Rattle.wb_lines.specs.declared.buffer.LineFault.{LineFault}
use Rattle.wb_lines.specs.declared.buffer.LineFault.TheVariants as faults
use Rattle.wb_lines.specs.declared.machine.SessionEnd.{SessionEnd}
use Rattle.wb_lines.specs.declared.machine.SessionEnd.TheVariants as ends

-- A count that stops at `u64::MAX` went up by n.
abbrev pub RisesBy : ℕ → ℕ → ℕ → Type 0
RisesBy n old new = u64_saturate new ≡ u64_saturate (old + n)

-- the buffer counted each read that the reader was asked for
pub record CountsReads (old new : Reading) (before after : ℕ) : Type 0 where
  pub later : old.reads ≤ new.reads
  pub counted : RisesBy (new.reads - old.reads) before after

-- A read fault comes after a read that failed.
abbrev pub FailedAt : LineFault → Bool → Type 0
FailedAt faults.ReadFault failed = failed ≡ true
FailedAt faults.TooManyReads failed = Unit {0}
FailedAt faults.NoMemory failed = Unit {0}

-- The read that was made last failed, or all reads that are allowed were made.
abbrev pub StopsReading : LineFault → Bool → ℕ → ℕ → Type 0
StopsReading faults.ReadFault failed before after = failed ≡ true
StopsReading faults.TooManyReads failed before after = RisesBy read_limit before after
StopsReading faults.NoMemory failed before after = Unit {0}

-- Why a session reads no more, by its end: no byte is left, or the read that was made last failed, or all reads that are
-- allowed were made.
abbrev pub ReadsUntil : SessionEnd → Option (List ℕ) → Bool → ℕ → ℕ → Type 0
ReadsUntil (ends.Done count) left failed before after = IsAtEnd left
ReadsUntil (ends.ReadFault count) left failed before after = failed ≡ true
ReadsUntil (ends.TooManyReads count) left failed before after = RisesBy read_limit before after
ReadsUntil (ends.WriteFault count) left failed before after = Unit {0}
ReadsUntil (ends.NoMemory count) left failed before after = Unit {0}

-- How a session leaves its writer, by its end: flushed, or the write or flush that was made last failed.
abbrev pub WritesUntil : SessionEnd → (flushed failed : Bool) → Type 0
WritesUntil (ends.Done count) flushed failed = flushed ≡ true
WritesUntil (ends.ReadFault count) flushed failed = flushed ≡ true
WritesUntil (ends.TooManyReads count) flushed failed = flushed ≡ true
WritesUntil (ends.WriteFault count) flushed failed = failed ≡ true
WritesUntil (ends.NoMemory count) flushed failed = Unit {0}
