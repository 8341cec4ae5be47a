use Rattle.selective_undo.proofs.Inverses.{redo_back_law}
use Rattle.selective_undo.proofs.laws.redo_back.Goals as goal

pub returns : goal.returns
returns g c = λ order is_order matches. redo_back_law _
