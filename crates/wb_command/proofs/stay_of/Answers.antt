use Rattle.clap.specs.Words.{found_of, rows_of}
use Rattle.wb_command.proofs.Getters.{stay_alone}
use Rattle.wb_command.proofs.stay_of.Goals as goal

pub returns-in_err-workers : goal.returns-in_err-workers
returns-in_err-workers c = rw c.from_residual-in_err-workers.ensures
    (stay_alone (rows_of (found_of c.args.found.now)) c.requires (λ stay h. c.in_err-workers.ensures stay.workers h.3.2))
