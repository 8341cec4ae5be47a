use Rattle.wb_reshape.proofs.Dropped.{keeps_drops}
use Rattle.wb_reshape.proofs.laws.keeps_drops.Goals as goal

pub returns : goal.returns
returns c = keeps_drops
