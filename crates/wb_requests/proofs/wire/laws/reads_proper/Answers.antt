use Rattle.wb_requests.proofs.OnTheWire.ReadProper.{read_proper}
use Rattle.wb_requests.proofs.wire.laws.reads_proper.Goals as goal

pub returns : goal.returns
returns c = read_proper
