-- A desk on a port: what is told of it, and the day behind that.
use Rattle.std.specs.Prelude.{◌≡◌, ◌⊎◌, ℕ, Bool, true, List, ◌++◌, codes, decimal, take}
use Rattle.wb_lines.specs.declared.sink.Sink as Sink
use Rattle.wb_lines.specs.declared.source.Source as Source
use Rattle.wb_statuses.specs.Statuses.{IsFault}
use Rattle.wb_connections.specs.declared.accepting.Accepts as Accepts
use Rattle.wb_history.specs.Past.{Past}
use Rattle.wb_desk.specs.Openings.{whole_from}
use Rattle.wb_seats.specs.Days.{EndsDay, FailsDay}

-- what is told of the port before a day
abbrev pub listening : ℕ → List ℕ
listening port = codes "listening on 127.0.0.1:" ++ (decimal port ++ codes "\n")

module _ {I O N : Type 0} (source : Source.Ghosts I) (sink : Sink.Ghosts O) (accepts : Accepts.Ghosts N I O) where
  -- The port was told, and then a day was served; or a fault came before that, after a front of what is told.
  abbrev pub Hosts : Bool → Past → ℕ → ℕ → List ℕ → Type 0
  Hosts whole past seats status text =
      ((port : ℕ) × (day : List ℕ) × (text ≡ listening port ++ day) × EndsDay source sink accepts whole (whole_from past) seats status day)
      ⊎ (IsFault status × ((port count : ℕ) × (text ≡ take count (listening port))))

  -- Why a desk fails: its port could not be had, or its day failed.
  abbrev pub FailsToHost : Past → ℕ → (port_failed write_failed : Bool) → Type 0
  FailsToHost past seats port_failed write_failed = (port_failed ≡ true) ⊎ FailsDay source sink accepts (whole_from past) seats write_failed
