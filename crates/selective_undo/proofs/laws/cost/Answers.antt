use Rattle.selective_undo.proofs.Locality.{cost_law}
use Rattle.selective_undo.proofs.laws.cost.Goals as goal

pub returns : goal.returns
returns g c = λ order is_order matches. cost_law _
