use Rattle.wb_reshape.proofs.Sets.{keeps_sets}
use Rattle.wb_reshape.proofs.laws.keeps_sets.Goals as goal

pub returns : goal.returns
returns c = keeps_sets
