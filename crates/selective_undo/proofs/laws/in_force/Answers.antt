use Rattle.selective_undo.proofs.Inverses.{in_force_law}
use Rattle.selective_undo.proofs.laws.in_force.Goals as goal

pub returns : goal.returns
returns g c = λ order is_order matches. in_force_law _
