-- A desk that stays, whose changes are kept in a journal, and what is done with its file.
use Rattle.std.specs.Prelude.{◌≡◌, ◌⊎◌, ℕ, Bool, true, List, ◌++◌, None, Some, take}
use Rattle.std.specs.Io.KnownBytes.{Appends}
use Rattle.wb_keep.specs.Disk.Device.{Only}
use Rattle.wb_keep.specs.declared.disk.device.Device as Device
use Rattle.wb_kept.specs.declared.kept.Kept.{Kept}
use Rattle.wb_keep.specs.declared.keep.LineLog.{LineLog}
use Rattle.wb_kept_seats.specs.KeptCourses.{KeptCourse}
use Rattle.wb_lending.specs.declared.guests.Guests as Guests
use Rattle.wb_lines.specs.declared.sink.Sink as Sink
use Rattle.wb_lines.specs.declared.source.Source as Source
use Rattle.wb_history.specs.Past.{Past}
use Rattle.wb_statuses.specs.Statuses.{IsFault}
use Rattle.wb_sessions.specs.Keeping.{FailsToOpen, IsKeptHistory, IsNotOpened, IsOpened, RefusesFile, RefusesLines, Streams}
use Rattle.wb_sessions.specs.declared.files.FileFault.TheVariants as faults
use Rattle.wb_sessions.specs.declared.files.OpensFiles as OpensFiles
use Rattle.wb_sessions.specs.declared.keeping.KeptRun.{KeptRun}
use Rattle.wb_desk.specs.Courses.{Start}
use Rattle.wb_command.specs.declared.Place.{Place}
use Rattle.wb_seats.specs.Early.{PrintsAll, early_from}
use Rattle.wb_program.specs.KeptDays.{BreaksOff, HasNoDesk, LeavesDesk}
use Rattle.wb_program.specs.KeptSeats.{FailsOnce}
use Rattle.wb_program.specs.Stays.{FailsStay, IsStay, listening_at}
use Rattle.wb_visits.specs.declared.visit.Visit.{Visit}

module _ {I O G X E D : Type 0} (source : Source.Ghosts I) (sink : Sink.Ghosts O) (guests : Guests.Ghosts G (Visit I O) X E) (device : Device.Ghosts D) where
  -- It was settled and printed, and the file stands for its history.
  pub record SettlesKept (opening : Start) (begun seats : ℕ) (run : KeptRun D) (text : List ℕ) : Type 0 where
    pub left : KeptCourse
    pub log : LineLog D
    pub leaves : LeavesDesk device opening begun seats left log run.file
    pub stay : IsStay source sink guests opening seats left.course
    pub kept : IsKeptHistory device (record { state = left.course.history; log = log })
    pub prints : PrintsAll left.course run.status text
    pub is_fault : run.fault ≡ None

  -- A desk that was opened on this file ends.
  abbrev pub EndsKeptStay : Start → ℕ → ℕ → D → KeptRun D → List ℕ → Type 0
  EndsKeptStay opening begun seats file run text = SettlesKept opening begun seats run text
      ⊎ (BreaksOff device opening begun seats run text ⊎ HasNoDesk device seats file run text)

  -- Why it fails: as one whose changes aren't kept, or the file failed.
  abbrev pub FailsKeptStay : Start → ℕ → KeptRun D → (write_failed : Bool) → Type 0
  FailsKeptStay opening seats run write_failed =
      FailsStay source sink guests opening seats write_failed ⊎ ((run.fault ≡ Some faults.Failed) × FailsOnce device.faults)

  -- It was told where the desk listens, and then it stayed; or a fault came before that, after a front of what is told, and the file is
  -- untouched.
  abbrev pub HostsKeptStay : Start → ℕ → Place → ℕ → D → KeptRun D → List ℕ → Type 0
  HostsKeptStay opening begun place seats file run text =
      ((port : ℕ) × (stay : List ℕ) × (text ≡ listening_at place port ++ stay) × EndsKeptStay opening begun seats file run stay)
      ⊎ (IsFault run.status × (run.file ≡ file) × (run.fault ≡ None) × ((port count : ℕ) × (text ≡ take count (listening_at place port))))

  -- The journal was opened, and a desk stayed on its history.
  pub record ServesKeptStay (file : D) (held : List ℕ) (place : Place) (seats : ℕ) (run : KeptRun D) (port_failed : Bool) (s : Streams) : Type 0 where
    pub opened : Kept Past D
    pub is_opened : IsOpened device file held opened
    pub text : List ℕ
    pub written : Appends s.sent s.told text
    pub hosts : HostsKeptStay (early_from opened.state) (device.moment opened.log.device) place seats opened.log.device run text
    pub flushed : run.status ≡ 0 → s.flushed ≡ true
    pub failed : run.status ≡ 3 → (port_failed ≡ true) ⊎ FailsKeptStay (early_from opened.state) seats run s.write_failed

  -- a desk on the history of the journal; or a line of it is refused, or the file; or it could not be opened
  abbrev pub RunsStay : (file : D) → (held : List ℕ) → (place : Place) → (seats : ℕ) → KeptRun D → (port_failed : Bool) → Streams → Type 0
  RunsStay file held place seats run port_failed s = ServesKeptStay file held place seats run port_failed s
      ⊎ (RefusesLines device file held run s ⊎ (RefusesFile device file held run s ⊎ FailsToOpen device file held run s))

module _ {I O G X E D J H : Type 0} (source : Source.Ghosts I) (sink : Sink.Ghosts O) (guests : Guests.Ghosts G (Visit I O) X E)
    (device : Device.Ghosts D) (files : OpensFiles.Ghosts J D H) where
  -- The file at this path was opened, a desk stayed with it, and it was given back, with what is told of it.
  pub record KeepsStay (path : List ℕ) (place : Place) (seats status : ℕ) (port_failed : Bool) (after : J) (s : Streams) : Type 0 where
    pub file : D
    pub held : List ℕ
    pub came : files.came after path file held
    pub seen : device.seen file ≡ held
    pub durable : Only (device.seen file) (device.may_leave file)
    pub run : KeptRun D
    pub runs : RunsStay source sink guests device file held place seats run port_failed s
    pub is_status : status ≡ run.status
    pub closed : files.closed after run.file
    pub told : files.told after ≡ run.fault

  -- the desk that stays was kept at the path, or its file was not opened, which is told
  abbrev pub UsesStay : (path : List ℕ) → (place : Place) → (seats status : ℕ) → (port_failed : Bool) → (after : J) → Streams → Type 0
  UsesStay path place seats status port_failed after s = KeepsStay path place seats status port_failed after s ⊎ IsNotOpened device files status after s
