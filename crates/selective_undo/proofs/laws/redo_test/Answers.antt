use Rattle.selective_undo.proofs.LogLaws.{redo_test_law}
use Rattle.selective_undo.proofs.laws.redo_test.Goals as goal

pub returns : goal.returns
returns g c = λ order is_order matches. redo_test_law _
