use Rattle.wb_cells.specs.Cells.{Changes}
use Rattle.wb_layers.proofs.Together.{fresh_next}
use Rattle.wb_layers.proofs.laying.delta_of.Goals as goal

pub put-requires : goal.put-requires
put-requires c =
    let ys : Changes = c.args.changes.now in
    let i = c.loop-change.change-index in
    let y = c.change-item.result in
    let new = fresh_next ys i y c.requires c.loop-change-test.true c.change-item.is in
    rw (c.loop-change.invariant, c.cell.ensures) new
