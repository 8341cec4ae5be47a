use Rattle.std.proofs.Common.{refl}
use Rattle.wb_cells.specs.Runs.{packed_changes, rectangle_entries}
use Rattle.wb_book.specs.Joined.{answer, stored_in, element_in}
use Rattle.wb_book.proofs.Told.{rectangle_told}
use Rattle.wb_book.proofs.after.same_before.Goals as goal

pub returns : goal.returns
returns c =
    let b = c.args.block.now in
    rectangle_told c.rectangle_before.result (answer (stored_in c.args.cells.now.entries) (element_in c.args.arrays.now.entries)) b.number b.row
    c.row.result.now b.ranges c.ranges-2.result.now (packed_changes b.row (rectangle_entries b.ranges b.number)) c.row.ensures c.ranges-2.ensures refl
    c.rectangle_before.ensures
