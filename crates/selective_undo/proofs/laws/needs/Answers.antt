use Rattle.selective_undo.proofs.Locality.{needs_law}
use Rattle.selective_undo.proofs.laws.needs.Goals as goal

pub returns : goal.returns
returns g c = λ order is_order matches. needs_law _
