use Rattle.std.proofs.Common.{◌∙◌, sym}
use Rattle.wb_requests.proofs.OnTheWire.Read.{request_read}
use Rattle.wb_requests.proofs.OnTheWire.Values.{ok_same}
use Rattle.wb_requests.proofs.wire.laws.one_request.Goals as goal

pub returns : goal.returns
returns c = λ d r s h k. ok_same r s (sym (request_read d r h) ∙ request_read d s k)
