use Rattle.selective_undo.proofs.LogLaws.{accept_law}
use Rattle.selective_undo.proofs.laws.accept.Goals as goal

pub returns : goal.returns
returns g c = λ order is_order matches. accept_law _
