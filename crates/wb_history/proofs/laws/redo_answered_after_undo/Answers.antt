use Rattle.wb_history.proofs.BackAgain.{redo_back_answer_law}
use Rattle.wb_history.proofs.laws.redo_answered_after_undo.Goals as goal

pub returns : goal.returns
returns c = redo_back_answer_law
