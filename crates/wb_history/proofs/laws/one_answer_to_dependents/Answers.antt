use Rattle.wb_history.proofs.OneList.{dependents_answer_law}
use Rattle.wb_history.proofs.laws.one_answer_to_dependents.Goals as goal

pub returns : goal.returns
returns c = dependents_answer_law
