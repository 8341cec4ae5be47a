use Rattle.std.proofs.Common.{◌∙◌}
use Rattle.wb_edit.proofs.Ranges.{numbers_set}
use Rattle.wb_edit.proofs.commands.all.rectangle_changes.Goals as goal

pub returns-in-Ok : goal.returns-in-Ok
returns-in-Ok c = c.in-Ok.ensures.ok ∙ rw c.new-delta.ensures (numbers_set c.args.array c.args.ranges.now c.args.numbers.items)
