use Rattle.std.proofs.Common.{Some, cond, ap, ◌∙◌}
use Rattle.std.specs.Cmp.{eq_by_cmp_equiv}
use Rattle.wb_cells.specs.Cells.{cell_order}
use Rattle.wb_cells.specs.Stored.{value_in}
use Rattle.wb_cells.proofs.book.stored.put.Goals as goal

pub returns-in-Ok-clause-ok : goal.returns-in-Ok-clause-ok
returns-in-Ok-clause-ok c = λ q.
    c.in-Ok.ensures.updates.0 q
    ∙ ap (λ b. cond b (Some c.args.value) (value_in c.args.cells.now.entries q)) ((eq_by_cmp_equiv cell_order.total).symm c.args.cell q)
