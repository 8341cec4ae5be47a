use Rattle.std.proofs.Common.{List, None, Option, cond, ap, ◌∙◌}
use Rattle.wb_cells.specs.declared.values.index.Index.{Index}
use Rattle.wb_cells.specs.Stored.{indices_in}
use Rattle.wb_cells.proofs.MemberMaps.{turned, each_dropped}
use Rattle.wb_cells.proofs.book.members.drop_members.Goals as goal

pub returns-clause-dropped : goal.returns-clause-dropped
returns-clause-dropped c = λ e.
    c.remove.ensures.updates.0 e
    ∙ ap (λ b. cond {A = Option (List Index)} b None (indices_in c.args.sets.now.entries e)) (turned c.args.domain.now e)

pub returns-clause-each : goal.returns-clause-each
returns-clause-each c =
    each_dropped c.args.sets.now.entries c.remove.new.self.entries c.args.domain.now c.remove.ensures.updates.0 c.requires
