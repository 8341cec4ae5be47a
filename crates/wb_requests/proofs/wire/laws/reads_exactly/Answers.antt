use Rattle.wb_requests.proofs.OnTheWire.Found.{request_found}
use Rattle.wb_requests.proofs.OnTheWire.Read.{request_read}
use Rattle.wb_requests.proofs.wire.laws.reads_exactly.Goals as goal

pub returns : goal.returns
returns c = λ d r. (request_found d r, request_read d r)
