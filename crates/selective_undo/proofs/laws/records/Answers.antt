use Rattle.selective_undo.proofs.LogLaws.{record_law}
use Rattle.selective_undo.proofs.laws.records.Goals as goal

pub returns : goal.returns
returns g c = λ order is_order matches. record_law _
