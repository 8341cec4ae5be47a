use Rattle.clap.specs.Words.{found_of, rows_of}
use Rattle.wb_command.proofs.Getters.{place_unread}
use Rattle.wb_command.proofs.place_of.Goals as goal

pub returns-in_err-port : goal.returns-in_err-port
returns-in_err-port c = rw c.from_residual.ensures (place_unread (rows_of (found_of c.args.found.now)) c.in_err-port.ensures)
