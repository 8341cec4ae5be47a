use Rattle.wb_laws.proofs.Counts.{edit_count_law}
use Rattle.wb_laws.proofs.laws.edit_count.Goals as goal

pub returns : goal.returns
returns c = edit_count_law
