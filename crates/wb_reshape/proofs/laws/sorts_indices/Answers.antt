use Rattle.wb_reshape.proofs.Ascending.{sorted-ascending, has-ascending}
use Rattle.wb_reshape.proofs.laws.sorts_indices.Goals as goal

pub returns : goal.returns
returns c = λ is. (sorted-ascending is, has-ascending is)
