use Rattle.selective_undo.specs.Laws.{TakeBackLaw}
use Rattle.selective_undo.proofs.AllOrNothing.{of_each, take_back_law}
use Rattle.selective_undo.proofs.laws.take_back.Goals as goal

pub returns : goal.returns
returns g c = of_each g.row.Cell.Denot g.row.Value.Denot g.row.Pattern.Denot g.row.Refusal.Denot TakeBackLaw take_back_law
