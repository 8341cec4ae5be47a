use Rattle.selective_undo.proofs.Evaluation.{evaluate_history_law}
use Rattle.selective_undo.proofs.laws.evaluate_history.Goals as goal

pub returns : goal.returns
returns g c = λ order is_order matches. evaluate_history_law _
