use Rattle.wb_history.proofs.OneAnswer.{edit_answer_law}
use Rattle.wb_history.proofs.laws.one_answer_to_edit.Goals as goal

pub returns : goal.returns
returns c = edit_answer_law
