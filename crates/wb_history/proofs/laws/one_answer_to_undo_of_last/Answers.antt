use Rattle.wb_history.proofs.OneAnswer.{last_answer_law}
use Rattle.wb_history.proofs.laws.one_answer_to_undo_of_last.Goals as goal

pub returns : goal.returns
returns c = last_answer_law
