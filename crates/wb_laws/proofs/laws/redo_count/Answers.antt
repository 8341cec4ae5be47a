use Rattle.wb_laws.proofs.Counts.{redo_count_law}
use Rattle.wb_laws.proofs.laws.redo_count.Goals as goal

pub returns : goal.returns
returns c = redo_count_law
