use Rattle.wb_lines.proofs.Taking.{on_ok_at}
use Rattle.wb_kept_tests.proofs.keep.with_room.Goals as goal

pub append_ahead-requires-2 : goal.append_ahead-requires-2
append_ahead-requires-2 c =
    (on_ok_at c.append_ahead.result _ c.is_err.result c.is_err.ensures.value c.if-is_err.false c.append_ahead.ensures.acknowledged).0

pub close-requires : goal.close-requires
close-requires c =
    (on_ok_at c.append_ahead-2.result _ c.is_err-2.result c.is_err-2.ensures.value c.if-is_err-2.false c.append_ahead-2.ensures.acknowledged).0
