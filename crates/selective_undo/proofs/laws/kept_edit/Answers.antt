use Rattle.selective_undo.proofs.LogLaws.{kept_edit_law}
use Rattle.selective_undo.proofs.laws.kept_edit.Goals as goal

pub returns : goal.returns
returns g c = λ order is_order matches. kept_edit_law _
