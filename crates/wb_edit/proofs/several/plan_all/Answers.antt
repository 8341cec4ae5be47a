use Rattle.wb_edit.proofs.InTurn.{refused_all}
use Rattle.wb_edit.proofs.several.plan_all.Goals as goal

pub returns-in-Ok-build-2 : goal.returns-in-Ok-build-2
returns-in-Ok-build-2 c =
    rw c.in-Ok-build-2.ensures
    (refused_all c.args.commands.now c.args.book.now.cells c.of-layered.result.cells c.new-footprint.result c.attempt_all.new.footprint
    c.in-Err-Refused.place c.in-Err-Refused.why c.of-layered.ensures.cells c.new-footprint.ensures (rw c.in-Err-Refused.field-0-is at c.in-Err-Refused.ensures))
