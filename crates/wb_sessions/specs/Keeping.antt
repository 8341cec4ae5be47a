-- Sessions whose changes are kept in a journal, what is told of its file, and the exit status.
use Rattle.std.specs.Prelude.{◌≡◌, ◌⊎◌, ◌<◌, ℕ, Bool, true, false, List, [], Option, None, Some, IsTrue, IsFalse}
use Rattle.std.specs.Io.KnownBytes.{Appends, IsAtEnd}
use Rattle.wb_keep.specs.Disk.Device.{LeavesOnly, Only}
use Rattle.wb_keep.specs.declared.disk.device.Device as Device
use Rattle.wb_keep.specs.Lines.{is_ours, recovered}
use Rattle.wb_keep.specs.Repair.{StandsForTheSame}
use Rattle.wb_kept.specs.Keeping.{IsKept}
use Rattle.wb_kept.specs.Runs.{Leads, StopsAt}
use Rattle.wb_kept.specs.Sessions.{KeepsUntil, ReadsUntil, Session, WritesUntil}
use Rattle.wb_kept.specs.declared.kept.Kept.{Kept}
use Rattle.wb_kept.specs.declared.kept.OpenKeptErr.{OpenKeptErr}
use Rattle.wb_kept.specs.declared.kept.OpenKeptErr.TheVariants as errs
use Rattle.wb_kept.specs.declared.session.KeptEnd.{KeptEnd}
use Rattle.wb_kept.specs.declared.session.KeptEnd.TheVariants as ends
use Rattle.wb_lines.specs.declared.sink.Sink as Sink
use Rattle.wb_lines.specs.declared.source.Source as Source
use Rattle.wb_history.specs.Past.{Past}
use Rattle.wb_keeping.specs.Granting.Granting.{Answers, Grants, no_edit}
use Rattle.wb_sessions.specs.Checking.{IsAnswered, Says}
use Rattle.wb_sessions.specs.Running.{HasFailed}
use Rattle.wb_sessions.specs.declared.checking.Verdict.TheVariants.{Refused}
use Rattle.wb_sessions.specs.declared.files.FileFault.{FileFault}
use Rattle.wb_sessions.specs.declared.files.FileFault.TheVariants as faults
use Rattle.wb_sessions.specs.declared.files.OpensFiles as OpensFiles
use Rattle.wb_sessions.specs.declared.keeping.KeptRun.{KeptRun}

-- 0 where all was answered and kept, 3 where input, output or the file failed, 4 where a growth was refused
abbrev pub status_of_end : KeptEnd → ℕ
status_of_end (ends.Done count) = 0
status_of_end (ends.ReadFault count) = 3
status_of_end (ends.TooManyReads count) = 3
status_of_end (ends.WriteFault count) = 3
status_of_end (ends.NoMemory count) = 4
status_of_end (ends.DiskFault count) = 3

-- what is told of the file
abbrev pub fault_of_end : KeptEnd → Option FileFault
fault_of_end (ends.DiskFault count) = Some faults.Failed
fault_of_end _ = None

-- the exit status where the file of a journal is not opened
abbrev pub status_of_fault : FileFault → ℕ
status_of_fault faults.NoMemory = 4
status_of_fault _ = 3

-- A reader and a writer before and after: what is unread and what is left, how many reads were made, what was written, and how the latest
-- calls came out.
pub record Streams : Type 0 where
  pub unread : Option (List ℕ)
  pub left : Option (List ℕ)
  pub reads_before : ℕ
  pub reads_after : ℕ
  pub read_failed : Bool
  pub sent : Option (List ℕ)
  pub told : Option (List ℕ)
  pub flushed : Bool
  pub write_failed : Bool

-- those of a source and a sink
abbrev pub streams : {R W : Type 0} → Source.Ghosts R → Sink.Ghosts W → (old new : R) → (before after : W) → Streams
streams source sink old new before after = record {
  unread = source.remaining old;
  left = source.remaining new;
  reads_before = source.reads old;
  reads_after = source.reads new;
  read_failed = source.failed new;
  sent = sink.contents before;
  told = sink.contents after;
  flushed = sink.flushed after;
  write_failed = sink.failed after;
}

-- a writer beside which nothing is read
abbrev pub writer_alone : {W : Type 0} → Sink.Ghosts W → (before after : W) → Streams
writer_alone sink before after = record {
  unread = None;
  left = None;
  reads_before = 0;
  reads_after = 0;
  read_failed = false;
  sent = sink.contents before;
  told = sink.contents after;
  flushed = sink.flushed after;
  write_failed = sink.failed after;
}

-- the writer of these alone
abbrev pub its_writer : Streams → Streams
its_writer s = record {
  unread = None;
  left = None;
  reads_before = 0;
  reads_after = 0;
  read_failed = false;
  sent = s.sent;
  told = s.told;
  flushed = s.flushed;
  write_failed = s.write_failed;
}

-- Nothing was read.
abbrev pub ReadsNothing : Streams → Type 0
ReadsNothing s = (s.left ≡ s.unread) × (s.reads_after ≡ s.reads_before)

-- Nothing was written either.
abbrev pub DoesNothing : Streams → Type 0
DoesNothing s = ReadsNothing s × (s.told ≡ s.sent)

module _ {D : Type 0} (device : Device.Ghosts D) where
  -- the file is at rest, all of it on the disk, and its lines lead from no edit to the history
  abbrev pub IsKeptHistory : Kept Past D → Type 0
  IsKeptHistory kept = IsKept no_edit Grants device.seen device.may_leave kept

  -- a session of the machine of requests, whose changes are kept
  abbrev pub KeepsSession : KeptEnd → (old new : Kept Past D) → (unread left sent told : Option (List ℕ)) → Type 0
  KeepsSession = Session no_edit Grants Answers device.seen device.may_leave device.moment device.left_since

  -- a file of ours that held this was opened, and stands for the history of its lines; a crash on the way leaves the same lines
  pub record IsOpened (file : D) (held : List ℕ) (kept : Kept Past D) : Type 0 where
    pub ours : IsTrue (is_ours held)
    pub is_kept : IsKeptHistory kept
    pub same : recovered (device.seen kept.log.device) ≡ recovered held
    pub any_moment : LeavesOnly device.moment device.left_since file kept.log.device (StandsForTheSame held)

  -- Why a file was not opened, and how it is left: as it was, where it is of another kind or has a line that is not granted; else a crash on
  -- the way leaves the same lines.
  abbrev pub IsCause : (file : D) → (held : List ℕ) → OpenKeptErr → (left : D) → Type 0
  IsCause file held errs.NotOurs left = IsFalse (is_ours held) × (left ≡ file)
  IsCause file held (errs.NotGranted place) left = IsTrue (is_ours held) × ((p : Past) → Leads Grants no_edit (recovered held) p → ⊥)
      × StopsAt Grants no_edit (recovered held) place × (left ≡ file)
  IsCause file held errs.Memory left = LeavesOnly device.moment device.left_since file left (StandsForTheSame held)
  IsCause file held errs.Failed left =
      LeavesOnly device.moment device.left_since file left (StandsForTheSame held) × (device.faults file < device.faults left)

  -- The lines were answered on a history that is kept, up to the end of input or a fault.
  pub record ServesOn (opened : Kept Past D) (run : KeptRun D) (s : Streams) : Type 0 where
    pub end : KeptEnd
    pub after : Kept Past D
    pub session : KeepsSession end opened after s.unread s.left s.sent s.told
    pub reads : ReadsUntil end s.left s.read_failed s.reads_before s.reads_after
    pub writes : WritesUntil end s.flushed s.write_failed
    pub keeps : KeepsUntil end (device.faults opened.log.device) (device.faults after.log.device)
    pub is_status : run.status ≡ status_of_end end
    pub is_fault : run.fault ≡ fault_of_end end
    pub is_file : run.file ≡ after.log.device

  -- The journal was opened, and the lines were answered on its history.
  pub record ServesKept (file : D) (held : List ℕ) (run : KeptRun D) (s : Streams) : Type 0 where
    pub opened : Kept Past D
    pub is_opened : IsOpened file held opened
    pub serves : ServesOn opened run s

  -- A line of the journal is not granted: that is refused, which is printed, the first such line is told, and the file is untouched.
  pub record RefusesLines (file : D) (held : List ℕ) (run : KeptRun D) (s : Streams) : Type 0 where
    pub ours : IsTrue (is_ours held)
    pub not_granted : (p : Past) → Leads Grants no_edit (recovered held) p → ⊥
    pub untouched : run.file ≡ file
    pub nothing_read : ReadsNothing s
    pub text : List ℕ
    pub written : Appends s.sent s.told text
    pub says : Says Refused run.status text
    pub flushed : IsAnswered run.status → s.flushed ≡ true
    pub failed : run.status ≡ 3 → s.write_failed ≡ true
    pub place : ℕ
    pub stops : StopsAt Grants no_edit (recovered held) place
    pub is_fault : run.fault ≡ Some (faults.NotGranted place)

  -- The file is of another kind, and untouched.
  pub record RefusesFile (file : D) (held : List ℕ) (run : KeptRun D) (s : Streams) : Type 0 where
    pub foreign : IsFalse (is_ours held)
    pub untouched : run.file ≡ file
    pub nothing : DoesNothing s
    pub is_status : run.status ≡ 3
    pub is_fault : run.fault ≡ Some faults.NotOurs

  -- There was no memory to open it, or the file failed. A crash on the way leaves the same lines.
  pub record FailsToOpen (file : D) (held : List ℕ) (run : KeptRun D) (s : Streams) : Type 0 where
    pub nothing : DoesNothing s
    pub any_moment : LeavesOnly device.moment device.left_since file run.file (StandsForTheSame held)
    pub cause : ((run.status ≡ 4) × (run.fault ≡ None))
        ⊎ ((run.status ≡ 3) × (run.fault ≡ Some faults.Failed) × (device.faults file < device.faults run.file))

  -- a session on the history of the journal; or a line of it is refused, or the file; or it could not be opened
  abbrev pub RunsKept : (file : D) → (held : List ℕ) → KeptRun D → Streams → Type 0
  RunsKept file held run s = ServesKept file held run s ⊎ (RefusesLines file held run s ⊎ (RefusesFile file held run s ⊎ FailsToOpen file held run s))

-- what is made of each cause: the exit status, what is told of the file, and what is printed
abbrev pub TurnsAway : OpenKeptErr → ℕ → Option FileFault → (sent told : Option (List ℕ)) → (flushed write_failed : Bool) → Type 0
TurnsAway errs.NotOurs status fault sent told flushed write_failed = (told ≡ sent) × (status ≡ 3) × (fault ≡ Some faults.NotOurs)
TurnsAway (errs.NotGranted place) status fault sent told flushed write_failed =
    ((text : List ℕ) × Appends sent told text × Says Refused status text) × (IsAnswered status → flushed ≡ true)
    × (status ≡ 3 → write_failed ≡ true) × (fault ≡ Some (faults.NotGranted place))
TurnsAway errs.Memory status fault sent told flushed write_failed = (told ≡ sent) × (status ≡ 4) × (fault ≡ None)
TurnsAway errs.Failed status fault sent told flushed write_failed = (told ≡ sent) × (status ≡ 3) × (fault ≡ Some faults.Failed)

-- status 0 comes only at the end of input, with the writer flushed
abbrev pub FinishesKept : ℕ → Streams → Type 0
FinishesKept status s = status ≡ 0 → IsAtEnd s.left × (s.flushed ≡ true)

-- and 3 only where a read, a write or a flush failed, or all reads that are allowed were made, or where the file is the cause
abbrev pub FailsKept : ℕ → Option FileFault → Streams → Type 0
FailsKept status fault s = status ≡ 3 → HasFailed s.read_failed s.reads_before s.reads_after s.write_failed ⊎ ((why : FileFault) × (fault ≡ Some why))

module _ {D J H : Type 0} (device : Device.Ghosts D) (files : OpensFiles.Ghosts J D H) where
  -- The file at this path was opened, it was used so, and it was given back, with what is told of it.
  pub record UsesFileAt (Uses : (file : D) → (held : List ℕ) → KeptRun D → Streams → Type 0) (path : List ℕ) (status : ℕ) (after : J) (s : Streams) : Type 0 where
    pub file : D
    pub held : List ℕ
    pub came : files.came after path file held
    pub seen : device.seen file ≡ held
    pub durable : Only (device.seen file) (device.may_leave file)
    pub run : KeptRun D
    pub uses : Uses file held run s
    pub is_status : status ≡ run.status
    pub fails : FailsKept status run.fault s
    pub closed : files.closed after run.file
    pub told : files.told after ≡ run.fault

  -- It was not opened, which is told.
  pub record IsNotOpened (status : ℕ) (after : J) (s : Streams) : Type 0 where
    pub nothing : DoesNothing s
    pub fault : FileFault
    pub told : files.told after ≡ Some fault
    pub is_status : status ≡ status_of_fault fault

  -- it was used so, or not opened
  abbrev pub UsesFile : (Uses : (file : D) → (held : List ℕ) → KeptRun D → Streams → Type 0) → (path : List ℕ) → (status : ℕ) → (after : J) → Streams → Type 0
  UsesFile Uses path status after s = UsesFileAt Uses path status after s ⊎ IsNotOpened status after s
