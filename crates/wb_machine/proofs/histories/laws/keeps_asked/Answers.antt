use Rattle.wb_machine.proofs.HistoryTexts.KeptAsked.{keeps_asked}
use Rattle.wb_machine.proofs.histories.laws.keeps_asked.Goals as goal

pub returns : goal.returns
returns c = keeps_asked
