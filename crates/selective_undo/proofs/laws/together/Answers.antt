use Rattle.selective_undo.specs.Laws.{TogetherLaw}
use Rattle.selective_undo.proofs.AllOrNothing.{of_each}
use Rattle.selective_undo.proofs.Together.{together_law}
use Rattle.selective_undo.proofs.laws.together.Goals as goal

pub returns : goal.returns
returns g c = of_each g.row.Cell.Denot g.row.Value.Denot g.row.Pattern.Denot g.row.Refusal.Denot TogetherLaw together_law
