use Rattle.std.proofs.Common.{◌++◌, ap, ◌∙◌}
use Rattle.wb_edit.proofs.Ranges.{rectangle_set}
use Rattle.wb_edit.proofs.commands.writes.become_rectangle.Goals as goal

pub returns-in-Ok-clause-ok : goal.returns-in-Ok-clause-ok
returns-in-Ok-clause-ok c = c.in-Ok.ensures.ok ∙ ap (λ xs. c.args.delta.now ++ xs) (rectangle_set c.args.row.now c.args.ranges.now c.args.number)
