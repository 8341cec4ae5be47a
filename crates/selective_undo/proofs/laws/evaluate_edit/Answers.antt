use Rattle.selective_undo.proofs.Evaluation.{evaluate_edit_law}
use Rattle.selective_undo.proofs.laws.evaluate_edit.Goals as goal

pub returns : goal.returns
returns g c = λ order is_order matches. evaluate_edit_law _
