use Rattle.wb_requests.proofs.OnTheWire.Encoded.{encoded}
use Rattle.wb_requests.proofs.wire.laws.encodes_requests.Goals as goal

pub returns : goal.returns
returns c = λ r h. encoded r h
