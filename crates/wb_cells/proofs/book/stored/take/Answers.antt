use Rattle.std.proofs.Common.{None, cond, ap, ◌∙◌}
use Rattle.std.specs.Cmp.{eq_by_cmp_equiv}
use Rattle.wb_cells.specs.Cells.{cell_order}
use Rattle.wb_cells.specs.Stored.{value_in}
use Rattle.wb_cells.proofs.book.stored.take.Goals as goal

pub returns-clause-taken : goal.returns-clause-taken
returns-clause-taken c = λ q.
    c.remove.ensures.updates.0 q
    ∙ ap (λ b. cond b None (value_in c.args.cells.now.entries q)) ((eq_by_cmp_equiv cell_order.total).symm c.args.cell.now q)
