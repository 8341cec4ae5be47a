use Rattle.wb_keeping.specs.Granting.Beginning.{no_request}
use Rattle.wb_keeping.proofs.granting.begins_no_session.Goals as goal

pub returns : goal.returns
returns c = no_request
