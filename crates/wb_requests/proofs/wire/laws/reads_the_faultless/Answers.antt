use Rattle.wb_requests.proofs.OnTheWire.RefusedSeveral.{read_faultless, faultless_read}
use Rattle.wb_requests.proofs.wire.laws.reads_the_faultless.Goals as goal

pub returns : goal.returns
returns c = λ d. (read_faultless d, faultless_read d)
