use Rattle.selective_undo.specs.Laws.{SetFirstLaw}
use Rattle.selective_undo.proofs.AllOrNothing.{of_each, set_first_law}
use Rattle.selective_undo.proofs.laws.set_first.Goals as goal

pub returns : goal.returns
returns g c = of_each g.row.Cell.Denot g.row.Value.Denot g.row.Pattern.Denot g.row.Refusal.Denot SetFirstLaw set_first_law
