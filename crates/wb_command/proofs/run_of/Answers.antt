use Rattle.clap.specs.Words.{found_of, rows_of}
use Rattle.wb_command.proofs.Getters.{run_alone}
use Rattle.wb_command.proofs.run_of.Goals as goal

pub returns-in_err-workers : goal.returns-in_err-workers
returns-in_err-workers c = rw c.from_residual.ensures (run_alone (rows_of (found_of c.args.found.now)) c.in_err-workers.ensures)
