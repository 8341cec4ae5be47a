use Rattle.selective_undo.proofs.Together.{all_of_law}
use Rattle.selective_undo.proofs.laws.all_of.Goals as goal

pub returns : goal.returns
returns g c = λ order is_order matches. all_of_law _
