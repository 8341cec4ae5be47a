-- Which reason is told by what a command line asks for, and that a desk ends with another status than a refusal.
use Rattle.std.proofs.Common.{◌≡◌, inl, inr, ℕ, Bool, List, Option, ◌∙◌, ap, subst, sym}
use Rattle.wb_command.specs.declared.Asked.{Asked}
use Rattle.wb_command.specs.declared.Asked.TheVariants.{Run, RunKept, Serve}
use Rattle.wb_lines.specs.declared.sink.Sink as Sink
use Rattle.wb_lines.specs.declared.source.Source as Source
use Rattle.wb_history.specs.Past.{Past}
use Rattle.wb_statuses.proofs.Faults.{no_fault_of_1, no_print_of_1}
use Rattle.wb_sessions.specs.declared.reasons.Reason.{Reason}
use Rattle.wb_seats.specs.Hosting.{Hosts}
use Rattle.wb_program.specs.Telling.{TellsWhy}
use Rattle.wb_connections.specs.declared.accepting.Accepts as Accepts

-- what a command line asks for, by whether the text of a history comes first
pub run_tells : (asked : Asked) (workers : ℕ) (resume b : Bool) (old left : Option (List ℕ)) (told : Option Reason) → asked ≡ Run resume workers
    → resume ≡ b → TellsWhy (Run b workers) old left told → TellsWhy asked old left told
run_tells asked workers resume b old left told is e h = subst (λ a. TellsWhy a old left told) (sym (is ∙ ap (λ b. Run b workers) e)) h

pub kept_tells : (asked : Asked) (path : List ℕ) (workers : ℕ) (resume b : Bool) (old left : Option (List ℕ)) (told : Option Reason)
    → asked ≡ RunKept path resume workers → resume ≡ b → TellsWhy (RunKept path b workers) old left told → TellsWhy asked old left told
kept_tells asked path workers resume b old left told is e h =
    subst (λ a. TellsWhy a old left told) (sym (is ∙ ap (λ b. RunKept path b workers) e)) h

pub serve_tells : (asked : Asked) (port seats workers : ℕ) (resume b : Bool) (old left : Option (List ℕ)) (told : Option Reason)
    → asked ≡ Serve port seats resume workers → resume ≡ b → TellsWhy (Serve port seats b workers) old left told → TellsWhy asked old left told
serve_tells asked port seats workers resume b old left told is e h =
    subst (λ a. TellsWhy a old left told) (sym (is ∙ ap (λ b. Serve port seats b workers) e)) h

module _ {I O N : Type 0} (source : Source.Ghosts I) (sink : Sink.Ghosts O) (accepts : Accepts.Ghosts N I O) where
  -- a desk ends with another status
  no_host_of_1 : (whole : Bool) (past : Past) (seats status : ℕ) (text : List ℕ) → status ≡ 1 → Hosts source sink accepts whole past seats status text → ⊥
  no_host_of_1 whole past seats status text e (inl (port, day, is, inl (course, is_day, prints))) = no_print_of_1 status _ day e prints
  no_host_of_1 whole past seats status text e (inl (port, day, is, inr (nothing, inl bad))) = cc (e, bad.0)
  no_host_of_1 whole past seats status text e (inl (port, day, is, inr (nothing, inr fault))) = no_fault_of_1 status e fault
  no_host_of_1 whole past seats status text e (inr fault) = no_fault_of_1 status e fault.0

  -- so nothing has to be told of it
  pub host_of_1 : (P : Type 0) (whole : Bool) (past : Past) (seats status : ℕ) (text : List ℕ) → status ≡ 1 → Hosts source sink accepts whole past seats status text → P
  host_of_1 P whole past seats status text e hosts = absurd (no_host_of_1 whole past seats status text e hosts)
