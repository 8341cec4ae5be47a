use Rattle.std.proofs.Common.{arith}
use Rattle.wb_cells.specs.declared.changes.row.IndexedRow.TheVariants.{Elements}
use Rattle.wb_cells.proofs.Rectangles.{numbered_short, numbered_full}
use Rattle.wb_log.proofs.filled_cells.FilledCells.len.Goals as goal

pub returns-then-self-size : goal.returns-then-self-size
returns-then-self-size c =
    let f = c.args.self.now in
    numbered_short (Elements f.array.now) f.on.now f.numbers.now (omega (arith, c.if-self-size.true, c.size-size.ensures.count))

pub returns-else-self-size : goal.returns-else-self-size
returns-else-self-size c =
    let f = c.args.self.now in
    let full = numbered_full (Elements f.array.now) f.on.now f.numbers.now (omega (arith, c.if-self-size.false, c.size-size.ensures.count)) in
    omega (arith, c.size-size.ensures.count, full)
