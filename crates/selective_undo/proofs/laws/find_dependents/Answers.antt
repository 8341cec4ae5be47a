use Rattle.selective_undo.proofs.FindDependents.{find_dependents_law}
use Rattle.selective_undo.proofs.laws.find_dependents.Goals as goal

pub returns : goal.returns
returns g c = λ order is_order matches. find_dependents_law _
