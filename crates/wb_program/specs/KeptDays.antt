-- A day of a desk whose changes are kept in a journal, and what is done with its file.
use Rattle.std.specs.Prelude.{◌≡◌, ◌⊎◌, ℕ, Bool, true, false, List, [], ◌++◌, None, Some, Option, take}
use Rattle.std.specs.Io.KnownBytes.{Appends}
use Rattle.wb_keep.specs.Disk.Device.{Only}
use Rattle.wb_keep.specs.declared.disk.device.Device as Device
use Rattle.wb_kept.specs.declared.kept.Kept.{Kept}
use Rattle.wb_keep.specs.declared.keep.LineLog.{LineLog}
use Rattle.wb_kept_seats.specs.Files.{LeavesFrontsOf}
use Rattle.wb_kept_seats.specs.KeptCourses.{KeptCourse}
use Rattle.wb_lines.specs.declared.sink.Sink as Sink
use Rattle.wb_lines.specs.declared.source.Source as Source
use Rattle.wb_history.specs.Past.{Past}
use Rattle.wb_desk.specs.Courses.{IsCourse, Start}
use Rattle.wb_desk.specs.Openings.{whole_from}
use Rattle.wb_command.specs.declared.Asked.{Asked}
use Rattle.wb_command.specs.declared.Asked.TheVariants as ask
use Rattle.wb_statuses.specs.Statuses.{IsFault}
use Rattle.wb_seats.specs.Days.{FailsDay, IsDay}
use Rattle.wb_seats.specs.Hosting.{listening}
use Rattle.wb_sessions.specs.Keeping.{FailsToOpen, IsKeptHistory, IsNotOpened, IsOpened, ReadsNothing, RefusesFile, RefusesLines, Streams, its_writer}
use Rattle.wb_program.specs.KeptSeats.{FailsOnce}
use Rattle.wb_seats.specs.Serving.{NeverSettles, PrintsSettled}
use Rattle.wb_connections.specs.declared.accepting.Accepts as Accepts
use Rattle.wb_sessions.specs.declared.files.FileFault.{FileFault}
use Rattle.wb_sessions.specs.declared.files.FileFault.TheVariants as faults
use Rattle.wb_sessions.specs.declared.files.OpensFiles as OpensFiles
use Rattle.wb_sessions.specs.declared.keeping.KeptRun.{KeptRun}

module _ {D : Type 0} (device : Device.Ghosts D) where
  -- Nothing is told of the file; or that it failed, with status 3, which it did.
  abbrev pub TellsOfFile : ℕ → Option FileFault → Type 0
  TellsOfFile status fault = (fault ≡ None) ⊎ ((status ≡ 3) × (fault ≡ Some faults.Failed) × FailsOnce device.faults)

  -- What is left of a desk of so many seats: a course from its opening, and the log in the file. A crash at any moment since it was opened
  -- leaves a file that stands for the history after the first so many entries.
  pub record LeavesDesk (opening : Start) (begun seats : ℕ) (k : KeptCourse) (log : LineLog D) (file : D) : Type 0 where
    pub is_course : IsCourse opening k.course
    pub so_many : k.course.seats ≡ seats
    pub any_moment : LeavesFrontsOf device.moment device.left_since opening.history begun k.course log
    pub is_file : file ≡ log.device

  -- A day was not settled, and nothing was printed.
  pub record BreaksOff (opening : Start) (begun seats : ℕ) (run : KeptRun D) (text : List ℕ) : Type 0 where
    pub left : KeptCourse
    pub log : LineLog D
    pub leaves : LeavesDesk opening begun seats left log run.file
    pub is_fault : IsFault run.status
    pub nothing : text ≡ []
    pub told : TellsOfFile run.status run.fault

  -- There was no desk, and the file is untouched.
  pub record HasNoDesk (seats : ℕ) (file : D) (run : KeptRun D) (text : List ℕ) : Type 0 where
    pub untouched : run.file ≡ file
    pub never : NeverSettles seats run.status text
    pub is_fault : run.fault ≡ None

module _ {I O N D : Type 0} (source : Source.Ghosts I) (sink : Sink.Ghosts O) (accepts : Accepts.Ghosts N I O) (device : Device.Ghosts D) where
  -- A day was settled and printed, and the file stands for its history.
  pub record SettlesKept (opening : Start) (begun seats : ℕ) (run : KeptRun D) (text : List ℕ) : Type 0 where
    pub left : KeptCourse
    pub log : LineLog D
    pub leaves : LeavesDesk device opening begun seats left log run.file
    pub day : IsDay source sink accepts opening seats left.course
    pub kept : IsKeptHistory device (record { state = left.course.history; log = log })
    pub prints : PrintsSettled false left.course run.status text
    pub is_fault : run.fault ≡ None

  -- A day of a desk that was opened on this file ends.
  abbrev pub EndsKeptDay : Start → ℕ → ℕ → D → KeptRun D → List ℕ → Type 0
  EndsKeptDay opening begun seats file run text = SettlesKept opening begun seats run text
      ⊎ (BreaksOff device opening begun seats run text ⊎ HasNoDesk device seats file run text)

  -- Why such a day fails: as a day does whose changes aren't kept, or the file failed.
  abbrev pub FailsKeptDay : Start → ℕ → KeptRun D → (write_failed : Bool) → Type 0
  FailsKeptDay opening seats run write_failed =
      FailsDay source sink accepts opening seats write_failed ⊎ ((run.fault ≡ Some faults.Failed) × FailsOnce device.faults)

  -- The port was told, and then the day was served; or a fault came before that, after a front of what is told, and the file is untouched.
  abbrev pub HostsKept : Start → ℕ → ℕ → D → KeptRun D → List ℕ → Type 0
  HostsKept opening begun seats file run text =
      ((port : ℕ) × (day : List ℕ) × (text ≡ listening port ++ day) × EndsKeptDay opening begun seats file run day)
      ⊎ (IsFault run.status × (run.file ≡ file) × (run.fault ≡ None) × ((port count : ℕ) × (text ≡ take count (listening port))))

  -- The journal was opened, and a desk was served on its history.
  pub record ServesKeptDesk (file : D) (held : List ℕ) (seats : ℕ) (run : KeptRun D) (port_failed : Bool) (s : Streams) : Type 0 where
    pub opened : Kept Past D
    pub is_opened : IsOpened device file held opened
    pub text : List ℕ
    pub written : Appends s.sent s.told text
    pub hosts : HostsKept (whole_from opened.state) (device.moment opened.log.device) seats opened.log.device run text
    pub flushed : run.status ≡ 0 → s.flushed ≡ true
    pub failed : run.status ≡ 3 → (port_failed ≡ true) ⊎ FailsKeptDay (whole_from opened.state) seats run s.write_failed

  -- a desk on the history of the journal; or a line of it is refused, or the file; or it could not be opened
  abbrev pub RunsDesk : (file : D) → (held : List ℕ) → (seats : ℕ) → KeptRun D → (port_failed : Bool) → Streams → Type 0
  RunsDesk file held seats run port_failed s = ServesKeptDesk file held seats run port_failed s
      ⊎ (RefusesLines device file held run s ⊎ (RefusesFile device file held run s ⊎ FailsToOpen device file held run s))

module _ {I O N D J H : Type 0} (source : Source.Ghosts I) (sink : Sink.Ghosts O) (accepts : Accepts.Ghosts N I O) (device : Device.Ghosts D)
    (files : OpensFiles.Ghosts J D H) where
  -- The file at this path was opened, a desk was served with it, and it was given back, with what is told of it.
  pub record KeepsDesk (path : List ℕ) (seats status : ℕ) (port_failed : Bool) (after : J) (s : Streams) : Type 0 where
    pub file : D
    pub held : List ℕ
    pub came : files.came after path file held
    pub seen : device.seen file ≡ held
    pub durable : Only (device.seen file) (device.may_leave file)
    pub run : KeptRun D
    pub runs : RunsDesk source sink accepts device file held seats run port_failed s
    pub is_status : status ≡ run.status
    pub closed : files.closed after run.file
    pub told : files.told after ≡ run.fault

  -- the desk was kept at the path, or its file was not opened, which is told
  abbrev pub UsesDesk : (path : List ℕ) → (seats status : ℕ) → (port_failed : Bool) → (after : J) → Streams → Type 0
  UsesDesk path seats status port_failed after s = KeepsDesk path seats status port_failed after s ⊎ IsNotOpened device files status after s

  -- What a command does with the file of a desk: a desk with a journal opens one, and reads no input.
  abbrev pub KeepsDay : Asked → ℕ → (port_failed : Bool) → (after : J) → Streams → Type 0
  KeepsDay (ask.ServeKept path port seats workers) status port_failed after s =
      ReadsNothing s × UsesDesk path seats status port_failed after (its_writer s)
  KeepsDay asked status port_failed after s = Unit {0}
