use Rattle.wb_lines.proofs.Taking.{on_ok_at}
use Rattle.wb_kept_tests.proofs.compact.acknowledged.Goals as goal

pub append-requires : goal.append-requires
append-requires c = (on_ok_at c.compact.result _ c.is_err.result c.is_err.ensures.value c.if-is_err.false c.compact.ensures.compacted).0
