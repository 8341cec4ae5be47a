-- What a connection is told for which no seat is free.
use Rattle.std.specs.Prelude.{◌≡◌, ◌⊎◌, ℕ, Bool, true, List, codes, take}
use Rattle.std.specs.Io.KnownBytes.{Appends}
use Rattle.wb_lines.specs.declared.sink.Sink as Sink

-- the line that it is told
abbrev pub no_seat : List ℕ
no_seat = codes "{\"error\":\"E93\",\"name\":\"no-seat\"}\n"

-- That line was written, and nothing else, and flushed; or a front of it, where a write or the flush failed.
abbrev pub IsTold : (flushed failed : Bool) → List ℕ → Type 0
IsTold flushed failed text = ((text ≡ no_seat) × (flushed ≡ true)) ⊎ ((failed ≡ true) × ((count : ℕ) × (text ≡ take count no_seat)))

-- A writer was told so.
pub record IsTurnedAway {O : Type 0} (sink : Sink.Ghosts O) (o : O) : Type 0 where
  pub writer : O
  pub text : List ℕ
  pub appended : Appends (sink.contents o) (sink.contents writer) text
  pub told : IsTold (sink.flushed writer) (sink.failed writer) text
