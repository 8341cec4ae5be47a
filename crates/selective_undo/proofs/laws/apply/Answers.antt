use Rattle.selective_undo.specs.Laws.{ApplyLaw}
use Rattle.selective_undo.proofs.AllOrNothing.{of_each, apply_law}
use Rattle.selective_undo.proofs.laws.apply.Goals as goal

pub returns : goal.returns
returns g c = of_each g.row.Cell.Denot g.row.Value.Denot g.row.Pattern.Denot g.row.Refusal.Denot ApplyLaw apply_law
