use Rattle.wb_history.proofs.BackAgain.{redo_after_last_answer_law}
use Rattle.wb_history.proofs.laws.redo_answered_after_undo_of_last.Goals as goal

pub returns : goal.returns
returns c = redo_after_last_answer_law
