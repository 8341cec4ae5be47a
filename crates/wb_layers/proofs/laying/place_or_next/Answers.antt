use Rattle.std.proofs.Common.{Some, cond, sym, ap, ◌∙◌}
use Rattle.std.specs.BTreeMap as tree
use Rattle.std.specs.Cmp.{eq_by_cmp_equiv}
use Rattle.wb_cells.specs.Cells.{cell_cmp, cell_order}
use Rattle.wb_layers.proofs.Placed.{put_back}
use Rattle.wb_layers.proofs.laying.place_or_next.Goals as goal

pub returns-in-Ok-None-clause-given : goal.returns-in-Ok-None-clause-given
returns-in-Ok-None-clause-given c = λ q.
    c.in-Ok-None.ensures.updates.0 q
    ∙ ap (λ b. cond b (Some c.args.next) (tree.get cell_cmp c.args.places.now q)) ((eq_by_cmp_equiv cell_order.total).symm c.args.cell.now q)

pub returns-in-Ok-clause-had : goal.returns-in-Ok-clause-had
returns-in-Ok-clause-had c = λ q.
    c.in-Ok.ensures.updates.0 q
    ∙ put_back c.args.cell.now q c.args.next c.in-Ok-Some.place (tree.get cell_cmp c.args.places.now) _ (c.in-Ok-Some.ensures.updates.0 q)
    (sym c.in-Ok-Some.ensures.old ∙ c.in-Ok-Some.field-0-is)
