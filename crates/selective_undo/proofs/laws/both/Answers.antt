use Rattle.selective_undo.proofs.Together.{both_law}
use Rattle.selective_undo.proofs.laws.both.Goals as goal

pub returns : goal.returns
returns g c = λ order is_order matches. both_law _
