use Rattle.clap.specs.Words.{found_of}
use Rattle.wb_command.proofs.Getters.{flag_read}
use Rattle.wb_command.proofs.is_told.Goals as goal

pub returns : goal.returns
returns c = rw c.unwrap_or.ensures (flag_read _ (found_of c.args.found.now) c.args.name.now c.get_one.result c.get_one.ensures.none c.get_one.ensures.value)
