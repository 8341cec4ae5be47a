use Rattle.wb_requests.proofs.OnTheWire.Explained.{tells_the_least}
use Rattle.wb_requests.proofs.wire.laws.explains_the_least.Goals as goal

pub returns : goal.returns
returns c = tells_the_least
