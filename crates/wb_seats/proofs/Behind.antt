-- A seat's session behind a door.
use Rattle.std.proofs.Common.{◌≡◌, ℕ, List, subst}
use Rattle.std.specs.Io.KnownBytes.{Appends, Consumes}
use Rattle.wb_lines.specs.Causes.{ReadsUntil, WritesUntil}
use Rattle.wb_lines.specs.Turns.{ServesTurns}
use Rattle.wb_lines.specs.declared.machine.SessionEnd.{SessionEnd}
use Rattle.wb_lines.specs.declared.sink.Sink as Sink
use Rattle.wb_lines.specs.declared.source.Source as Source
use Rattle.wb_desk.specs.Serving.{Held}
use Rattle.wb_seats.specs.Days.{ServedOn}
use Rattle.wb_connections.specs.Door.{left_at, failed_at, reads_at}
use Rattle.wb_connections.specs.declared.door.Door.{Door}
use Rattle.wb_connections.specs.declared.door.Way.TheVariants.{Unread}

-- what was served from a door before a reader of which nothing was read
pub behind_door : {I O : Type 0} (source : Source.Ghosts I) (sink : Sink.Ghosts O) (answers : Held → List ℕ → List ℕ → Held → Type 0) (h k : Held) (i : I) (o w : O) (d e : Door I)
    → d ≡ record { reader = i; way = Unread }
    → ((end : SessionEnd) × ReadsUntil end (left_at source.remaining e) (failed_at source.failed e) (reads_at source.reads d) (reads_at source.reads e)
    × WritesUntil end (sink.flushed w) (sink.failed w)
    × ((read : List ℕ) × Consumes (left_at source.remaining d) (left_at source.remaining e) read
    × ((text : List ℕ) × Appends (sink.contents o) (sink.contents w) text
    × ServesTurns answers end h read (left_at source.remaining e) text k)))
    → ServedOn source sink answers h i o k
behind_door source sink answers h k i o w d e is s = record {
  end = s.0;
  door = e;
  writer = w;
  reads = subst (λ d. ReadsUntil s.0 (left_at source.remaining e) (failed_at source.failed e) (reads_at source.reads d) (reads_at source.reads e)) is s.1;
  writes = s.2;
  read = s.3.0;
  consumed = subst (λ d. Consumes (left_at source.remaining d) (left_at source.remaining e) s.3.0) is s.3.1;
  text = s.3.2.0;
  appended = s.3.2.1;
  session = s.3.2.2;
}
