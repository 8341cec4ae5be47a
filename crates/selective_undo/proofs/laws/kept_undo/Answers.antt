use Rattle.selective_undo.proofs.LogLaws.{kept_undo_law}
use Rattle.selective_undo.proofs.laws.kept_undo.Goals as goal

pub returns : goal.returns
returns g c = λ order is_order matches. kept_undo_law _
