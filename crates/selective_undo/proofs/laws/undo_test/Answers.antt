use Rattle.selective_undo.proofs.LogLaws.{undo_test_law}
use Rattle.selective_undo.proofs.laws.undo_test.Goals as goal

pub returns : goal.returns
returns g c = λ order is_order matches. undo_test_law _
