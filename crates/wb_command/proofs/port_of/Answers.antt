use Rattle.std.specs.Prelude.{Ok, Err, codes}
use Rattle.std.specs.Str.Parse.{ParsesUnsigned, ExplainsUnsignedError, HasUnsignedDigitsIfOk}
use Rattle.clap.specs.Words.{found_of}
use Rattle.wb_command.proofs.Getters.{optional_read}
use Rattle.wb_command.proofs.port_of.Goals as goal

pub returns-in-Ok : goal.returns-in-Ok
returns-in-Ok c = optional_read 16 (λ bs r. ParsesUnsigned 16 10 bs r × ExplainsUnsignedError 10 bs r × HasUnsignedDigitsIfOk bs r) (λ u x g. g.0)
    (found_of c.args.found.now) (codes "port") (Ok c.in-Ok.port) c.in-Ok.ensures.none c.in-Ok.ensures.value

pub returns-in-Err : goal.returns-in-Err
returns-in-Err c = optional_read 16 (λ bs r. ParsesUnsigned 16 10 bs r × ExplainsUnsignedError 10 bs r × HasUnsignedDigitsIfOk bs r) (λ u x g. g.0)
    (found_of c.args.found.now) (codes "port") (Err c.in-Err.field-0) c.in-Err.ensures.none c.in-Err.ensures.value
