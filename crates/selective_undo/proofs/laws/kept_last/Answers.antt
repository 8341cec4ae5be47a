use Rattle.selective_undo.proofs.LogLaws.{kept_last_law}
use Rattle.selective_undo.proofs.laws.kept_last.Goals as goal

pub returns : goal.returns
returns g c = λ order is_order matches. kept_last_law _
