-- Why a desk failed whose port was not told.
use Rattle.std.proofs.Common.{◌≡◌, ◌⊎◌, inl, inr, ℕ, Bool, true}
use Rattle.wb_lines.specs.declared.sink.Sink as Sink
use Rattle.wb_lines.specs.declared.source.Source as Source
use Rattle.wb_connections.specs.declared.accepting.Accepts as Accepts
use Rattle.wb_history.specs.Past.{Past}
use Rattle.wb_seats.specs.Hosting.{FailsToHost}

module _ {I O N : Type 0} (source : Source.Ghosts I) (sink : Sink.Ghosts O) (accepts : Accepts.Ghosts N I O) where
  pub not_told : (past : Past) (seats : ℕ) (port_failed write_failed : Bool) → (port_failed ≡ true) ⊎ (write_failed ≡ true)
      → FailsToHost source sink accepts past seats port_failed write_failed
  not_told past seats port_failed write_failed (inl port) = inl port
  not_told past seats port_failed write_failed (inr write) = inr (inr (inl write))
