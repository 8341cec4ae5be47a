use Rattle.selective_undo.proofs.LogLaws.{undo_record_law}
use Rattle.selective_undo.proofs.laws.undo_records.Goals as goal

pub returns : goal.returns
returns g c = λ order is_order matches. undo_record_law _
