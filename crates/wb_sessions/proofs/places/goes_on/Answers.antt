use Rattle.wb_history.specs.Restored.{one_of}
use Rattle.wb_sessions.proofs.LinesLeft.{begins_none}
use Rattle.wb_sessions.proofs.places.goes_on.Goals as goal

pub returns-in-Err-NotLegal-clause-none : goal.returns-in-Err-NotLegal-clause-none
returns-in-Err-NotLegal-clause-none g c is =
    let found = c.in-Ok-Some.found in
    let told = rw c.in-Ok-Some.field-0-is at c.in-Ok-Some.ensures.some in
    begins_none c.args.history.now.entries c.args.line.now (one_of found.0 found.1) told.0 told.1
    (c.in-Err-NotLegal.ensures.refused c.in-Err-NotLegal.field-0-is)
