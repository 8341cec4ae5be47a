-- A day of a desk: each seat is served on a connection of its own, and the desk is settled.
use Rattle.std.specs.Prelude.{◌≡◌, ◌⊎◌, ℕ, Bool, true, List, Some, option_map, length, slice_get}
use Rattle.std.specs.Io.KnownBytes.{Appends, Consumes}
use Rattle.wb_lines.specs.Causes.{ReadsUntil, WritesUntil}
use Rattle.wb_lines.specs.Turns.{ServesTurns}
use Rattle.wb_lines.specs.declared.machine.SessionEnd.{SessionEnd}
use Rattle.wb_lines.specs.declared.sink.Sink as Sink
use Rattle.wb_lines.specs.declared.source.Source as Source
use Rattle.wb_desk.specs.Courses.{Course, IsCourse, Start}
use Rattle.wb_desk.specs.Serving.{Held, new_passes}
use Rattle.wb_desk.specs.Settling.{IsSettled, IsCause}
use Rattle.wb_desk.specs.declared.settling.Cause.{Cause}
use Rattle.wb_connections.specs.Door.{heard, left_at, failed_at, reads_at}
use Rattle.wb_seats.specs.Serving.{AnswersSeat, PrintsSettled, NeverSettles}
use Rattle.wb_connections.specs.declared.accepting.Accepts as Accepts
use Rattle.wb_connections.specs.declared.door.Door.{Door}

module _ {I O : Type 0} (source : Source.Ghosts I) (sink : Sink.Ghosts O) where
  -- A pass was served on a connection, and is another one then: a session of replies, of which lines get these at a pass, to what is heard of
  -- its reader, up to the end of that or a fault.
  pub record ServedOn (answers : Held → List ℕ → List ℕ → Held → Type 0) (h : Held) (i : I) (o : O) (k : Held) : Type 0 where
    pub end : SessionEnd
    pub door : Door I
    pub writer : O
    pub reads : ReadsUntil end (left_at source.remaining door) (failed_at source.failed door) (source.reads i) (reads_at source.reads door)
    pub writes : WritesUntil end (sink.flushed writer) (sink.failed writer)
    pub read : List ℕ
    pub consumed : Consumes (option_map heard (source.remaining i)) (left_at source.remaining door) read
    pub text : List ℕ
    pub appended : Appends (sink.contents o) (sink.contents writer) text
    pub session : ServesTurns answers end h read (left_at source.remaining door) text k

module _ {I O N : Type 0} (source : Source.Ghosts I) (sink : Sink.Ghosts O) (accepts : Accepts.Ghosts N I O) where
  -- The connection of this number came, and the pass was served on it.
  pub record CameBack (opening : Start) (from : N) (number : ℕ) (h k : Held) : Type 0 where
    pub reader : I
    pub writer : O
    pub came : accepts.came from number reader writer
    pub served : ServedOn source sink (AnswersSeat opening) h reader writer k

  -- These passes came back, each from the connection of its number, in place of those.
  pub record AllBack (opening : Start) (from : N) (hs ks : List Held) : Type 0 where
    pub accepted : accepts.accepted from ≡ length hs
    pub count : length ks ≡ length hs
    pub each : (number : ℕ) (h k : Held) → slice_get hs number ≡ Some h → slice_get ks number ≡ Some k → CameBack opening from number h k

  -- what is left of a day when all connections have ended: what accepted them, the course, and the passes
  pub record Ended (opening : Start) (seats : ℕ) (c : Course) : Type 0 where
    pub from : N
    pub passes : List Held
    pub all_back : AllBack opening from (new_passes seats) passes
    pub is_course : IsCourse opening c
    pub so_many : c.seats ≡ seats

  -- A day of so many seats: as many connections came, each pass was served on its own, and the course has the entries of each.
  pub record IsDay (opening : Start) (seats : ℕ) (c : Course) : Type 0 where
    pub ended : Ended opening seats c
    pub settled : IsSettled seats c.entries ended.passes

  -- A day of a desk from this opening ends: its course was printed, or a front of that; or it never settled.
  abbrev pub EndsDay : Bool → Start → ℕ → ℕ → List ℕ → Type 0
  EndsDay whole opening seats status text = ((c : Course) × IsDay opening seats c × PrintsSettled whole c status text) ⊎ NeverSettles seats status text

  -- the passes came back, and for this cause they don't agree with the journal
  pub record Disagrees (opening : Start) (seats : ℕ) : Type 0 where
    pub course : Course
    pub ended : Ended opening seats course
    pub cause : Cause
    pub is_cause : IsCause seats course.entries ended.passes cause

  -- Why a day fails: a connection or its thread could not be had, or the latest write or flush failed, or the passes don't agree with the
  -- journal.
  abbrev pub FailsDay : Start → ℕ → (write_failed : Bool) → Type 0
  FailsDay opening seats write_failed = ((from : N) × (accepts.failed from ≡ true)) ⊎ ((write_failed ≡ true) ⊎ Disagrees opening seats)
