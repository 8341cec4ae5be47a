use Rattle.wb_history.proofs.OneAnswer.{undo_answer_law}
use Rattle.wb_history.proofs.laws.one_answer_to_undo.Goals as goal

pub returns : goal.returns
returns c = undo_answer_law
