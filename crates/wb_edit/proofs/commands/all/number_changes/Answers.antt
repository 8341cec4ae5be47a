use Rattle.std.proofs.Common.{◌∙◌, ap, ◌++◌}
use Rattle.wb_edit.specs.Commands.{number_cells}
use Rattle.wb_edit.proofs.commands.all.number_changes.Goals as goal

pub returns : goal.returns
returns c = c.in_ok-put_elements.ensures.ok ∙ ap (λ xs. xs ++ number_cells c.args.array c.args.elements.now) c.new-delta.ensures
