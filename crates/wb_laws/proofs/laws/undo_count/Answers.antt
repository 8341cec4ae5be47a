use Rattle.wb_laws.proofs.Counts.{undo_count_law}
use Rattle.wb_laws.proofs.laws.undo_count.Goals as goal

pub returns : goal.returns
returns c = undo_count_law
