use Rattle.wb_laws.proofs.Counts.{last_count_law}
use Rattle.wb_laws.proofs.laws.undo_last_count.Goals as goal

pub returns : goal.returns
returns c = last_count_law
