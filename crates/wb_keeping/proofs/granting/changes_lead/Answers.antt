use Rattle.wb_keeping.specs.Granting.Leading.{changes_lead}
use Rattle.wb_keeping.proofs.granting.changes_lead.Goals as goal

pub returns : goal.returns
returns c = changes_lead
