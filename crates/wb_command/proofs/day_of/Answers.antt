use Rattle.clap.specs.Words.{found_of, rows_of}
use Rattle.wb_command.proofs.Getters.{serve_alone, day_unread}
use Rattle.wb_command.proofs.day_of.Goals as goal

pub returns-in_err-workers : goal.returns-in_err-workers
returns-in_err-workers c = rw c.from_residual-in_err-workers.ensures
    (serve_alone (rows_of (found_of c.args.found.now)) (λ place seats workers h. c.in_err-workers.ensures workers h.2))

pub returns-in_err-idle_of : goal.returns-in_err-idle_of
returns-in_err-idle_of c = rw c.from_residual-in_err-idle_of.ensures (day_unread (rows_of (found_of c.args.found.now)) c.in_err-idle_of.ensures)

pub returns-in_err-place : goal.returns-in_err-place
returns-in_err-place c = rw c.from_residual.ensures
    (serve_alone (rows_of (found_of c.args.found.now)) (λ place seats workers h. c.in_err-place.ensures place h.0))
