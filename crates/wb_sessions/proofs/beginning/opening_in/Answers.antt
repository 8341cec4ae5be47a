use Rattle.wb_sessions.proofs.Begun.{not_opened, opened_with}
use Rattle.wb_sessions.proofs.beginning.opening_in.Goals as goal

pub returns-in-Ok-opening_of-clause-none : goal.returns-in-Ok-opening_of-clause-none
returns-in-Ok-opening_of-clause-none g c =
    not_opened c.in-Ok.text.now c.args.bytes.now c.in-Ok-opening_of.found c.in-Ok.ensures.cases.0 c.in-Ok-opening_of.ensures.none

pub returns-in-Ok-opening_of-clause-some : goal.returns-in-Ok-opening_of-clause-some
returns-in-Ok-opening_of-clause-some g c =
    opened_with c.in-Ok.text.now c.args.bytes.now c.in-Ok-opening_of.found c.in-Ok.ensures.cases.0 c.in-Ok-opening_of.ensures.some
