use Rattle.wb_machine.proofs.HistoryTexts.Same.{one_history}
use Rattle.wb_machine.proofs.histories.laws.one_text_one_history.Goals as goal

pub returns : goal.returns
returns c = one_history
