-- Journals that begin with the history whose text comes first.
use Rattle.std.specs.Prelude.{◌≡◌, ◌≢◌, ◌⊎◌, ◌<◌, ℕ, Bool, true, List, [], ◌∷◌, Option, None, Some, IsTrue}
use Rattle.std.specs.Io.KnownBytes.{Appends, Consumes}
use Rattle.wb_keep.specs.Disk.Device.{LeavesOnly}
use Rattle.wb_keep.specs.declared.disk.device.Device as Device
use Rattle.wb_keeping.specs.Granting.Granting.{Begins}
use Rattle.wb_keep.specs.Lines.{is_ours, recovered}
use Rattle.wb_keeping.specs.declared.opening.BeginErr.{BeginErr}
use Rattle.wb_keeping.specs.declared.opening.BeginErr.TheVariants as errs
use Rattle.wb_keeping.specs.Opening.{HasFailedSince, IsOldOrBegun}
use Rattle.wb_kept.specs.declared.kept.Kept.{Kept}
use Rattle.wb_lines.specs.Causes.{RisesBy}
use Rattle.wb_history.specs.Past.{Past}
use Rattle.wb_sessions.specs.Checking.{IsAnswered, Says}
use Rattle.wb_statuses.specs.Statuses.{IsFault}
use Rattle.wb_sessions.specs.Keeping.{DoesNothing, IsKeptHistory, IsNotOpened, RefusesFile, ServesOn, Streams, UsesFile}
use Rattle.wb_sessions.specs.Resuming.{IsRecord, IsUpToEnd, NoOpening}
use Rattle.wb_sessions.specs.Running.{HasFailedByNow}
use Rattle.wb_sessions.specs.declared.checking.Verdict.TheVariants.{Refused}
use Rattle.wb_sessions.specs.declared.files.FileFault.{FileFault}
use Rattle.wb_sessions.specs.declared.files.FileFault.TheVariants as faults
use Rattle.wb_sessions.specs.declared.files.OpensFiles as OpensFiles
use Rattle.wb_sessions.specs.declared.keeping.KeptRun.{KeptRun}

module _ {D : Type 0} (device : Device.Ghosts D) where
  -- The file had no line, and was given the one that the history begins with, which is on the disk. A crash before leaves no line, or that one.
  pub record IsBegun (past : Past) (file : D) (held : List ℕ) (opened : Kept Past D) : Type 0 where
    pub ours : IsTrue (is_ours held)
    pub no_line : recovered held ≡ []
    pub line : List ℕ
    pub begins : Begins line past
    pub is_kept : IsKeptHistory device opened
    pub is_past : opened.state ≡ past
    pub is_line : recovered (device.seen opened.log.device) ≡ line ∷ []
    pub any_moment : LeavesOnly device.moment device.left_since file opened.log.device (IsOldOrBegun held line)

  -- The file was begun with the history, and the lines were answered on it.
  pub record ServesBegun (past : Past) (file : D) (held : List ℕ) (run : KeptRun D) (s : Streams) : Type 0 where
    pub opened : Kept Past D
    pub is_begun : IsBegun past file held opened
    pub serves : ServesOn device opened run s

  -- The file has a line, and is untouched.
  pub record RefusesToBegin (file : D) (held : List ℕ) (run : KeptRun D) (s : Streams) : Type 0 where
    pub ours : IsTrue (is_ours held)
    pub has_lines : recovered held ≢ []
    pub untouched : run.file ≡ file
    pub nothing : DoesNothing s
    pub is_status : run.status ≡ 3
    pub is_fault : run.fault ≡ Some faults.HasLines

  -- There was no memory to begin it, or the file failed. A crash on the way leaves the lines from before, or the one that the history begins
  -- with.
  pub record FailsToBegin (past : Past) (file : D) (held : List ℕ) (run : KeptRun D) (s : Streams) : Type 0 where
    pub nothing : DoesNothing s
    pub line : List ℕ
    pub begins : Begins line past
    pub any_moment : LeavesOnly device.moment device.left_since file run.file (IsOldOrBegun held line)
    pub cause : ((run.status ≡ 4) × (run.fault ≡ None))
        ⊎ ((run.status ≡ 3) × (run.fault ≡ Some faults.Failed) × HasFailedSince device file run.file held line)

  -- the file has a line, or is of another kind; or it could not be begun
  abbrev pub IsNotBegun : Past → (file : D) → (held : List ℕ) → KeptRun D → Streams → Type 0
  IsNotBegun past file held run s = RefusesToBegin file held run s ⊎ (RefusesFile device file held run s ⊎ FailsToBegin past file held run s)

  -- a session on a history with which a file was begun; or it was not begun
  abbrev pub RunsBegun : Past → (file : D) → (held : List ℕ) → KeptRun D → Streams → Type 0
  RunsBegun past file held run s = ServesBegun past file held run s ⊎ IsNotBegun past file held run s

-- what is made of each cause: the exit status, and what is told of the file
abbrev pub TellsOf : BeginErr → ℕ → Option FileFault → Type 0
TellsOf errs.NotOurs status fault = (status ≡ 3) × (fault ≡ Some faults.NotOurs)
TellsOf errs.HasLines status fault = (status ≡ 3) × (fault ≡ Some faults.HasLines)
TellsOf errs.Memory status fault = (status ≡ 4) × (fault ≡ None)
TellsOf errs.Failed status fault = (status ≡ 3) × (fault ≡ Some faults.Failed)

-- The text of a history stood at the front, up to its line `end`, and was read, by so many reads; what comes behind it is left to the session.
pub record ReadsText (past : Past) (s later : Streams) : Type 0 where
  pub front : List ℕ
  pub consumed : Consumes s.unread later.unread front
  pub ends : IsUpToEnd front
  pub is_record : IsRecord front past
  pub made : ℕ
  pub counted : RisesBy made s.reads_before later.reads_before
  pub same : later ≡ record s { unread = later.unread; reads_before = later.reads_before }

-- There is no such text, which is refused and printed, or it could not be read. No file was opened.
pub record ReadsNoText {J : Type 0} (status : ℕ) (before after : J) (s : Streams) : Type 0 where
  pub untouched : after ≡ before
  pub read : List ℕ
  pub consumed : Consumes s.unread s.left read
  pub text : List ℕ
  pub written : Appends s.sent s.told text
  pub why : (NoOpening read × Says Refused status text) ⊎ (IsFault status × (text ≡ []))
  pub flushed : IsAnswered status → s.flushed ≡ true
  pub failed : status ≡ 3 → HasFailedByNow s.read_failed s.reads_before s.reads_after s.write_failed

module _ {D J H : Type 0} (device : Device.Ghosts D) (files : OpensFiles.Ghosts J D H) where
  -- there was no text; or it was read, and the file at this path was begun with its history, or not opened
  abbrev pub BeginsAt : (path : List ℕ) → (status : ℕ) → (before after : J) → Streams → Type 0
  BeginsAt path status before after s = ReadsNoText status before after s
      ⊎ ((past : Past) × (later : Streams) × ReadsText past s later × UsesFile device files (RunsBegun device past) path status after later)
