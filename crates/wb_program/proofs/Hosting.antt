-- What was done is what was asked for.
use Rattle.std.proofs.Common.{◌≡◌, ◌∙◌, ℕ, Bool, true, false, List, [], Option, refl, sym, ap, subst}
use Rattle.wb_lines.specs.declared.sink.Sink as Sink
use Rattle.wb_lines.specs.declared.source.Source as Source
use Rattle.wb_command.specs.declared.Asked.{Asked}
use Rattle.wb_command.specs.declared.Asked.TheVariants.{Run, Serve, Upgrade}
use Rattle.wb_program.specs.Doing.{Does, HostsHistory}
use Rattle.wb_seats.specs.Hosting.{Hosts}
use Rattle.wb_sessions.specs.Resuming.{IsResumed}
use Rattle.wb_sessions.specs.Running.{opening}
use Rattle.wb_sessions.specs.Upgrading.{Upgrades}
use Rattle.wb_connections.specs.declared.accepting.Accepts as Accepts

module _ {I O N : Type 0} (source : Source.Ghosts I) (sink : Sink.Ghosts O) (accepts : Accepts.Ghosts N I O) where
  pub history_hosted : (asked : Asked) (port seats workers : ℕ) (resume : Bool) (status : ℕ) (read : List ℕ) (left : Option (List ℕ)) (text : List ℕ)
      → asked ≡ Serve port seats resume workers → resume ≡ true → HostsHistory source sink accepts seats status read text
      → Does source sink accepts asked status read left text
  history_hosted asked port seats workers resume status read left text is e h =
      subst (λ a. Does source sink accepts a status read left text) (sym (is ∙ ap (λ b. Serve port seats b workers) e)) h

  pub hosted : (asked : Asked) (port seats workers : ℕ) (resume : Bool) (status : ℕ) (left : Option (List ℕ)) (text : List ℕ) → asked ≡ Serve port seats resume workers
      → resume ≡ false → Hosts source sink accepts false opening seats status text → Does source sink accepts asked status [] left text
  hosted asked port seats workers resume status left text is e h =
      subst (λ a. Does source sink accepts a status [] left text) (sym (is ∙ ap (λ b. Serve port seats b workers) e)) (refl, h)

  pub resumed : (asked : Asked) (workers : ℕ) (resume : Bool) (status : ℕ) (read : List ℕ) (left : Option (List ℕ)) (text : List ℕ)
      → asked ≡ Run resume workers → resume ≡ true → IsResumed status read left text → Does source sink accepts asked status read left text
  resumed asked workers resume status read left text is e h =
      subst (λ a. Does source sink accepts a status read left text) (sym (is ∙ ap (λ b. Run b workers) e)) h

  pub upgraded : (asked : Asked) (status : ℕ) (read : List ℕ) (left : Option (List ℕ)) (text : List ℕ)
      → asked ≡ Upgrade → Upgrades read status text → Does source sink accepts asked status read left text
  upgraded asked status read left text is h = subst (λ a. Does source sink accepts a status read left text) (sym is) h
