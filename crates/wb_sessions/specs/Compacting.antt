-- Journals that are made anew, and what is told of the file.
use Rattle.std.specs.Prelude.{◌≡◌, ◌⊎◌, ◌<◌, ℕ, true, false, List, [], ◌∷◌, Option, None, Some, Result, Ok, Err}
use Rattle.wb_keep.specs.Disk.Device.{LeavesOnly, Only}
use Rattle.wb_keep.specs.declared.disk.device.Device as Device
use Rattle.wb_keeping.specs.Granting.Granting.{Grants, no_edit}
use Rattle.wb_keep.specs.Lines.{HasHeader, recovered}
use Rattle.wb_keep.specs.declared.compacting.CompactErr.{CompactErr}
use Rattle.wb_keep.specs.declared.compacting.CompactErr.TheVariants as errs
use Rattle.wb_keeping.specs.Anew.{HasEdits}
use Rattle.wb_kept.specs.Runs.{Leads}
use Rattle.wb_kept.specs.declared.kept.Kept.{Kept}
use Rattle.wb_history.specs.Past.{Numbered, Past}
use Rattle.wb_sessions.specs.Keeping.{DoesNothing, FailsToOpen, IsOpened, RefusesFile, RefusesLines, Streams, UsesFile}
use Rattle.wb_sessions.specs.declared.files.FileFault.{FileFault}
use Rattle.wb_sessions.specs.declared.files.FileFault.TheVariants as faults
use Rattle.wb_sessions.specs.declared.files.OpensFiles as OpensFiles
use Rattle.wb_sessions.specs.declared.keeping.KeptRun.{KeptRun}

-- The file stands for a history with these edits, and has a header where another has one.
pub record StandsForEdits (held : List ℕ) (es : List Numbered) (file : List ℕ) : Type 0 where
  pub history : Past
  pub same : history.entries ≡ es
  pub leads : Leads Grants no_edit (recovered file) history
  pub head : HasHeader held → HasHeader file

-- what is made of how it came out: the exit status, and what is told of the file
abbrev pub TellsOfAnew : {T : Type 0} → Result T CompactErr → ℕ → Option FileFault → Type 0
TellsOfAnew (Ok made) status fault = (status ≡ 0) × (fault ≡ None)
TellsOfAnew (Err errs.Memory) status fault = (status ≡ 4) × (fault ≡ None)
TellsOfAnew (Err errs.NotMade) status fault = (status ≡ 3) × (fault ≡ Some faults.Failed)
TellsOfAnew (Err errs.Failed) status fault = (status ≡ 3) × (fault ≡ Some faults.Failed)

module _ {D : Type 0} (device : Device.Ghosts D) where
  -- The file has one line, all of it on the disk, and stands for a history with these edits.
  pub record IsAnew (es : List Numbered) (file : D) : Type 0 where
    pub has_edits : HasEdits es (device.seen file)
    pub line : List ℕ
    pub one_line : recovered (device.seen file) ≡ line ∷ []
    pub durable : Only (device.seen file) (device.may_leave file)

  -- A journal that was opened is made anew; or there was no memory for it, and it is as it was opened; or the file failed.
  abbrev pub EndsAnew : (opened : D) → List Numbered → KeptRun D → Type 0
  EndsAnew opened es run = ((run.status ≡ 0) × (run.fault ≡ None) × IsAnew es run.file)
      ⊎ (((run.status ≡ 4) × (run.fault ≡ None) × (run.file ≡ opened))
      ⊎ ((run.status ≡ 3) × (run.fault ≡ Some faults.Failed) × (device.faults opened < device.faults run.file)))

  -- The journal was opened, and made anew or not. A crash at any moment leaves the old file or the new one, each of which stands for a history
  -- with the edits of the old one.
  pub record MakesAnew (file : D) (held : List ℕ) (run : KeptRun D) (s : Streams) : Type 0 where
    pub opened : Kept Past D
    pub is_opened : IsOpened device file held opened
    pub any_moment : LeavesOnly device.moment device.left_since file run.file (StandsForEdits held opened.state.entries)
    pub ends : EndsAnew opened.log.device opened.state.entries run
    pub nothing : DoesNothing s

  -- the journal was opened and made anew; or a line of it is refused, or the file; or it could not be opened
  abbrev pub Compacts : (file : D) → (held : List ℕ) → KeptRun D → Streams → Type 0
  Compacts file held run s = MakesAnew file held run s ⊎ (RefusesLines device file held run s ⊎ (RefusesFile device file held run s ⊎ FailsToOpen device file held run s))

module _ {D J H : Type 0} (device : Device.Ghosts D) (files : OpensFiles.Ghosts J D H) where
  -- Nothing was found at the path, which is told. No file was made, and nothing was read or written.
  pub record FindsNone (status : ℕ) (after : J) (s : Streams) : Type 0 where
    pub missing : files.missing after ≡ true
    pub nothing : DoesNothing s
    pub told : files.told after ≡ Some faults.Missing
    pub is_status : status ≡ 3

  -- a file was found at the path, and made anew so, or not opened; or none was found there
  abbrev pub CompactsAt : (path : List ℕ) → (status : ℕ) → (after : J) → Streams → Type 0
  CompactsAt path status after s = ((files.missing after ≡ false) × UsesFile device files (Compacts device) path status after s) ⊎ FindsNone status after s
