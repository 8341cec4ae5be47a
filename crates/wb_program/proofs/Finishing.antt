-- Why a command failed, and how it left its devices.
use Rattle.std.proofs.Common.{◌≡◌, ◌⊎◌, ◌∙◌, inl, inr, ℕ, Bool, true, false, List, Option, Err, sym, ap, subst}
use Rattle.std.specs.Io.KnownBytes.{IsAtEnd}
use Rattle.wb_lines.specs.declared.sink.Sink as Sink
use Rattle.wb_lines.specs.declared.source.Source as Source
use Rattle.wb_command.specs.declared.Asked.{Asked}
use Rattle.wb_command.specs.declared.Asked.TheVariants.{Serve}
use Rattle.wb_program.specs.Doing.{Fails, FailsAfterInput, Finishes}
use Rattle.wb_seats.specs.Hosting.{FailsToHost}
use Rattle.wb_sessions.specs.Resuming.{IsOpening}
use Rattle.wb_sessions.specs.Running.{HasFailed, opening}
use Rattle.wb_connections.specs.declared.accepting.Accepts as Accepts
use Rattle.wb_statuses.proofs.Faults.{no_fault_of_0}

-- The status after an input that has no history is not 0.
pub no_opening_of_0 : (status : ℕ) (read text : List ℕ) → status ≡ 0 → IsOpening (Err status) read text → ⊥
no_opening_of_0 status read text e (inl (none, inl said)) = cc (e, said.0)
no_opening_of_0 status read text e (inl (none, inr part)) = no_fault_of_0 status e part.0
no_opening_of_0 status read text e (inr fault) = no_fault_of_0 status e fault.0

-- What holds of a desk's command line holds of the one that was given.
pub of_asked : (P : Asked → Type 0) (asked : Asked) (port seats workers : ℕ) (resume b : Bool) → asked ≡ Serve port seats resume workers → resume ≡ b
    → P (Serve port seats b workers) → P asked
of_asked P asked port seats workers resume b is e h = subst P (sym (is ∙ ap (λ b. Serve port seats b workers) e)) h

pub desk_finishes : (asked : Asked) (port seats workers : ℕ) (resume : Bool) (status : ℕ) (left : Option (List ℕ)) (flushed : Bool)
    → asked ≡ Serve port seats resume workers → resume ≡ false → (status ≡ 0 → flushed ≡ true) → Finishes asked status left flushed
desk_finishes asked port seats workers resume status left flushed is e h =
    of_asked (λ a. Finishes a status left flushed) asked port seats workers resume false is e h

pub resumed_desk_finishes : (asked : Asked) (port seats workers : ℕ) (resume : Bool) (status : ℕ) (left : Option (List ℕ)) (flushed : Bool)
    → asked ≡ Serve port seats resume workers → resume ≡ true → (status ≡ 0 → IsAtEnd left × (flushed ≡ true)) → Finishes asked status left flushed
resumed_desk_finishes asked port seats workers resume status left flushed is e h =
    of_asked (λ a. Finishes a status left flushed) asked port seats workers resume true is e h

module _ {I O N : Type 0} (source : Source.Ghosts I) (sink : Sink.Ghosts O) (accepts : Accepts.Ghosts N I O) where
  pub desk_fails : (asked : Asked) (port seats workers : ℕ) (resume : Bool) (old new : Option (List ℕ)) (read_failed : Bool) (before after : ℕ)
      (port_failed write_failed : Bool) → asked ≡ Serve port seats resume workers → resume ≡ false
      → FailsToHost source sink accepts opening seats port_failed write_failed
      → Fails source sink accepts asked old new read_failed before after port_failed write_failed
  desk_fails asked port seats workers resume old new read_failed before after port_failed write_failed is e h =
      of_asked (λ a. Fails source sink accepts a old new read_failed before after port_failed write_failed) asked port seats workers resume false is e h

  pub resumed_desk_fails : (asked : Asked) (port seats workers : ℕ) (resume : Bool) (old new : Option (List ℕ)) (read_failed : Bool)
      (before after : ℕ) (port_failed write_failed : Bool) → asked ≡ Serve port seats resume workers → resume ≡ true
      → HasFailed read_failed before after write_failed ⊎ FailsAfterInput source sink accepts seats old new port_failed write_failed
      → Fails source sink accepts asked old new read_failed before after port_failed write_failed
  resumed_desk_fails asked port seats workers resume old new read_failed before after port_failed write_failed is e h =
      of_asked (λ a. Fails source sink accepts a old new read_failed before after port_failed write_failed) asked port seats workers resume true is e h
