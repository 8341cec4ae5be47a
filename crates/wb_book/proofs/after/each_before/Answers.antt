use Rattle.std.proofs.Common.{◌≤◌, ℤ, List, length, None, ap, arith}
use Rattle.wb_cells.specs.Runs.{packed_changes, numbered_entries}
use Rattle.wb_cells.specs.Shapes.{indices}
use Rattle.wb_book.specs.Joined.{answer, stored_in, element_in}
use Rattle.wb_book.proofs.Told.{rectangle_told, keys_told}
use Rattle.wb_book.proofs.after.each_before.Goals as goal

pub returns : goal.returns
returns c =
    let b = c.args.block.now in
    let answers = answer (stored_in c.args.cells.now.entries) (element_in c.args.arrays.now.entries) in
    let many : length (indices b.ranges) ≤ length b.numbers.items =
    omega (
      arith,
      c.if-count-size.false,
      c.size.ensures.count,
      ap length c.numbers-count.ensures,
      ap (λ (rs : List (List ℤ)). length (indices rs)) c.ranges-ranges.ensures,
    ) in
    rectangle_told c.rectangle_before.result answers None b.row c.row.result.now b.ranges c.ranges-ranges.result.now
    (packed_changes b.row (numbered_entries b.ranges b.numbers.items)) c.row.ensures c.ranges-ranges.ensures
    (keys_told answers b.row None b.ranges b.numbers.items many) c.rectangle_before.ensures
