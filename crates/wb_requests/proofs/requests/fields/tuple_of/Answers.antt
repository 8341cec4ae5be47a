use Rattle.std.proofs.Common.{arith}
use Rattle.wb_requests.proofs.Counts.{tuple_none}
use Rattle.wb_requests.proofs.requests.fields.tuple_of.Goals as goal

pub returns-in-len1 : goal.returns-in-len1
returns-in-len1 c = tuple_none _ (λ e. omega (arith, e)) (λ e. omega (arith, e))

pub returns-in-len4-up : goal.returns-in-len4-up
returns-in-len4-up c = tuple_none _ (λ e. omega (arith, e)) (λ e. omega (arith, e))
