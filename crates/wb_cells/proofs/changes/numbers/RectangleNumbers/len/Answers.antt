use Rattle.std.proofs.Common.{arith}
use Rattle.wb_cells.proofs.Rectangles.{numbered_short, numbered_full}
use Rattle.wb_cells.proofs.changes.numbers.RectangleNumbers.len.Goals as goal

pub returns-then-len-size : goal.returns-then-len-size
returns-then-len-size c =
    let r = c.args.self.now in
    let short = numbered_short r.row r.ranges r.numbers.items (omega (arith, c.if-len-size.true, c.len.ensures, c.size-size.ensures.count)) in
    omega (arith, c.len-then-len-size.ensures, short)

pub returns-else-len-size : goal.returns-else-len-size
returns-else-len-size c =
    let r = c.args.self.now in
    let full = numbered_full r.row r.ranges r.numbers.items (omega (arith, c.if-len-size.false, c.len.ensures, c.size-size.ensures.count)) in
    omega (arith, c.size-size.ensures.count, full)
