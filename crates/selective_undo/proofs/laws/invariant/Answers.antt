use Rattle.selective_undo.proofs.Invariants.{invariant_law}
use Rattle.selective_undo.proofs.laws.invariant.Goals as goal

pub returns : goal.returns
returns g c = λ order is_order matches. invariant_law _
