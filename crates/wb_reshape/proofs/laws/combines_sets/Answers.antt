use Rattle.wb_reshape.proofs.Sources.{IsListedOnce-combined, has-combined}
use Rattle.wb_reshape.proofs.laws.combines_sets.Goals as goal

pub returns : goal.returns
returns c = λ how given old g o. (IsListedOnce-combined how given old g o, has-combined how given old)
