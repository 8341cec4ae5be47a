-- What the program does by what its command line asks for.
use Rattle.std.specs.Prelude.{◌≡◌, ◌⊎◌, ℕ, Bool, true, false, List, [], Option}
use Rattle.std.specs.Io.KnownBytes.{Consumes, IsAtEnd}
use Rattle.wb_lines.specs.declared.machine.SessionEnd.{SessionEnd}
use Rattle.wb_lines.specs.declared.sink.Sink as Sink
use Rattle.wb_lines.specs.declared.source.Source as Source
use Rattle.wb_history.specs.Past.{Past}
use Rattle.wb_command.specs.declared.Asked.{Asked}
use Rattle.wb_command.specs.declared.Asked.TheVariants as ask
use Rattle.wb_sessions.specs.Checking.{IsAnswered, IsNoRecord, Judges, Says}
use Rattle.wb_statuses.specs.Statuses.{IsFault}
use Rattle.wb_seats.specs.Hosting.{FailsToHost, Hosts}
use Rattle.wb_sessions.specs.Resuming.{IsRecord, IsResumed}
use Rattle.wb_sessions.specs.Running.{HasFailed, HasFailedByNow, ServesFromEmpty, opening, status_of}
use Rattle.wb_sessions.specs.Upgrading.{Upgrades}
use Rattle.wb_connections.specs.declared.accepting.Accepts as Accepts
use Rattle.wb_sessions.specs.declared.checking.Verdict.TheVariants.{Refused}

-- a session from the empty workbook ended with this status
abbrev pub IsRun : ℕ → (read : List ℕ) → (left : Option (List ℕ)) → List ℕ → Type 0
IsRun status read left text = (end : SessionEnd) × (status ≡ status_of end) × ServesFromEmpty end read left text

module _ {I O N : Type 0} (source : Source.Ghosts I) (sink : Sink.Ghosts O) (accepts : Accepts.Ghosts N I O) where
  -- a desk from the history whose text was read; or that was refused, which was printed; or there was a fault, and nothing was
  abbrev pub HostsHistory : ℕ → ℕ → List ℕ → List ℕ → Type 0
  HostsHistory seats status read text = ((past : Past) × IsRecord read past × Hosts source sink accepts true past seats status text)
      ⊎ ((IsNoRecord read × Says Refused status text) ⊎ (IsFault status × (text ≡ [])))

  -- Each command: a session, one that goes on from the text of a history, the judging of a text, the text of a workbook made that of a
  -- history, a desk, one that goes on from the text of a history.
  abbrev pub Does : Asked → ℕ → (read : List ℕ) → (left : Option (List ℕ)) → List ℕ → Type 0
  Does (ask.Run false workers) status read left text = IsRun status read left text
  Does (ask.Run true workers) status read left text = IsResumed status read left text
  -- (what is read and written by a command with a journal, and what it keeps, is `UsesFiles`; of a desk it is `KeepsDay`)
  Does (ask.RunKept path resume workers) status read left text = Unit {0}
  Does (ask.Compact path) status read left text = Unit {0}
  Does (ask.ServeKept path port seats workers) status read left text = Unit {0}
  Does ask.Check status read left text = Judges read status text
  Does ask.Upgrade status read left text = Upgrades read status text
  Does (ask.Serve port seats false workers) status read left text = (read ≡ []) × Hosts source sink accepts false opening seats status text
  Does (ask.Serve port seats true workers) status read left text = HostsHistory seats status read text

  -- the text of a history was read, and a desk from it failed
  abbrev pub FailsAfterInput : ℕ → (old new : Option (List ℕ)) → (port_failed write_failed : Bool) → Type 0
  FailsAfterInput seats old new port_failed write_failed =
      (read : List ℕ) × (past : Past) × Consumes old new read × IsRecord read past × FailsToHost source sink accepts past seats port_failed write_failed

  -- Why each command fails: a read, or a write or flush, or all reads that are allowed were made; or its desk failed, where it has one.
  abbrev pub Fails : Asked → (old new : Option (List ℕ)) → (read_failed : Bool) → (before after : ℕ) → (port_failed write_failed : Bool) → Type 0
  Fails (ask.Run false workers) old new read_failed before after port_failed write_failed = HasFailed read_failed before after write_failed
  Fails (ask.Run true workers) old new read_failed before after port_failed write_failed = HasFailedByNow read_failed before after write_failed
  -- (why a command with a journal fails stands in `UsesFiles`, and of a desk in `KeepsDay`)
  Fails (ask.RunKept path resume workers) old new read_failed before after port_failed write_failed = Unit {0}
  Fails (ask.Compact path) old new read_failed before after port_failed write_failed = Unit {0}
  Fails (ask.ServeKept path port seats workers) old new read_failed before after port_failed write_failed = Unit {0}
  Fails ask.Check old new read_failed before after port_failed write_failed = HasFailed read_failed before after write_failed
  Fails ask.Upgrade old new read_failed before after port_failed write_failed = HasFailed read_failed before after write_failed
  Fails (ask.Serve port seats false workers) old new read_failed before after port_failed write_failed =
      FailsToHost source sink accepts opening seats port_failed write_failed
  Fails (ask.Serve port seats true workers) old new read_failed before after port_failed write_failed =
      HasFailed read_failed before after write_failed ⊎ FailsAfterInput seats old new port_failed write_failed

-- How each command leaves its devices where it answered all: the input, where one is read, at its end, and the writer flushed.
abbrev pub Finishes : Asked → ℕ → (left : Option (List ℕ)) → (flushed : Bool) → Type 0
Finishes (ask.Run resume workers) status left flushed = status ≡ 0 → IsAtEnd left × (flushed ≡ true)
Finishes (ask.RunKept path resume workers) status left flushed = status ≡ 0 → IsAtEnd left × (flushed ≡ true)
-- (a journal that is made anew reads nothing, and what it prints is `UsesFiles`)
Finishes (ask.Compact path) status left flushed = Unit {0}
Finishes (ask.ServeKept path port seats workers) status left flushed = status ≡ 0 → flushed ≡ true
Finishes ask.Check status left flushed = IsAnswered status → IsAtEnd left × (flushed ≡ true)
Finishes ask.Upgrade status left flushed = IsAnswered status → IsAtEnd left × (flushed ≡ true)
Finishes (ask.Serve port seats false workers) status left flushed = status ≡ 0 → flushed ≡ true
Finishes (ask.Serve port seats true workers) status left flushed = status ≡ 0 → IsAtEnd left × (flushed ≡ true)
