use Rattle.wb_requests.proofs.OnTheWire.RefusedSeveral.{refused_least, least_refused}
use Rattle.wb_requests.proofs.wire.laws.refuses_by_the_least.Goals as goal

pub returns : goal.returns
returns c = λ d why. (refused_least d why, least_refused d why)
