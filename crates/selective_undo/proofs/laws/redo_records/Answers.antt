use Rattle.selective_undo.proofs.LogLaws.{redo_record_law}
use Rattle.selective_undo.proofs.laws.redo_records.Goals as goal

pub returns : goal.returns
returns g c = λ order is_order matches. redo_record_law _
