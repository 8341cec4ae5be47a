use Rattle.wb_keeping.specs.Granting.Leading.{one_history}
use Rattle.wb_keeping.proofs.granting.one_history.Goals as goal

pub returns : goal.returns
returns c = one_history
