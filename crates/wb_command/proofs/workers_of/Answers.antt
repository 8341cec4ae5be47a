use Rattle.std.specs.Prelude.{Ok, Err}
use Rattle.std.specs.Str.Parse.{ParsesUnsigned, ExplainsUnsignedError, HasUnsignedDigitsIfOk}
use Rattle.clap.specs.Words.{found_of}
use Rattle.wb_command.proofs.Getters.{workers_read}
use Rattle.wb_command.proofs.workers_of.Goals as goal

pub returns-in-Ok : goal.returns-in-Ok
returns-in-Ok c = rw c.unwrap_or.ensures
    (workers_read (λ bs r. ParsesUnsigned 8 10 bs r × ExplainsUnsignedError 10 bs r × HasUnsignedDigitsIfOk bs r) (λ u x g. g.0)
    (found_of c.args.found.now) (Ok c.in-Ok.workers) c.in-Ok.ensures.none c.in-Ok.ensures.value)

pub returns-in-Err : goal.returns-in-Err
returns-in-Err c = workers_read (λ bs r. ParsesUnsigned 8 10 bs r × ExplainsUnsignedError 10 bs r × HasUnsignedDigitsIfOk bs r) (λ u x g. g.0)
    (found_of c.args.found.now) (Err c.in-Err.field-0) c.in-Err.ensures.none c.in-Err.ensures.value
