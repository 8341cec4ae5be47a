use Rattle.wb_laws.proofs.Reshapes.{reshape_law}
use Rattle.wb_laws.proofs.laws.reshape.Goals as goal

pub returns : goal.returns
returns c = reshape_law
