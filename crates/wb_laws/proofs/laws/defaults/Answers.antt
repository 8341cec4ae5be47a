use Rattle.wb_laws.proofs.Defaults.{defaults_law}
use Rattle.wb_laws.proofs.laws.defaults.Goals as goal

pub returns : goal.returns
returns c = defaults_law
