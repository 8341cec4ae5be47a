use Rattle.selective_undo.proofs.LogLaws.{kept_redo_law}
use Rattle.selective_undo.proofs.laws.kept_redo.Goals as goal

pub returns : goal.returns
returns g c = λ order is_order matches. kept_redo_law _
