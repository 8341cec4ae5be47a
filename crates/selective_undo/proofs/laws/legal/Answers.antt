use Rattle.selective_undo.proofs.Inverses.{legal_law}
use Rattle.selective_undo.proofs.laws.legal.Goals as goal

pub returns : goal.returns
returns g c = λ order is_order matches. legal_law _
