use Rattle.selective_undo.proofs.LogLaws.{run_law}
use Rattle.selective_undo.proofs.laws.run.Goals as goal

pub returns : goal.returns
returns g c = λ order is_order matches. run_law _
