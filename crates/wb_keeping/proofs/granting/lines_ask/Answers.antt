use Rattle.wb_keeping.specs.Granting.Beginning.{lines_ask}
use Rattle.wb_keeping.proofs.granting.lines_ask.Goals as goal

pub returns : goal.returns
returns c = lines_ask
