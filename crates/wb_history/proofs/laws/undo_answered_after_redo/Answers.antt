use Rattle.wb_history.proofs.BackAgain.{undo_after_redo_answer_law}
use Rattle.wb_history.proofs.laws.undo_answered_after_redo.Goals as goal

pub returns : goal.returns
returns c = undo_after_redo_answer_law
