use Rattle.wb_history.proofs.OneAnswer.{redo_answer_law}
use Rattle.wb_history.proofs.laws.one_answer_to_redo.Goals as goal

pub returns : goal.returns
returns c = redo_answer_law
