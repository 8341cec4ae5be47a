use Rattle.selective_undo.proofs.Together.{front_law}
use Rattle.selective_undo.proofs.laws.front.Goals as goal

pub returns : goal.returns
returns g c = λ order is_order matches. front_law _
