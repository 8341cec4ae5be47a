use Rattle.std.proofs.Common.{List, Some, Option, cond, ap, ◌∙◌}
use Rattle.wb_cells.specs.declared.values.index.Index.{Index}
use Rattle.wb_cells.specs.Stored.{indices_in}
use Rattle.wb_cells.proofs.MemberMaps.{turned}
use Rattle.wb_cells.proofs.book.members.put_set.Goals as goal

pub returns-in-Ok-clause-put : goal.returns-in-Ok-clause-put
returns-in-Ok-clause-put c = λ put e.
    c.in-Ok.ensures.updates.0 e
    ∙ ap (λ b. cond {A = Option (List Index)} b (Some c.args.set) (indices_in c.args.sets.now.entries e)) (turned c.args.domain.now e)
