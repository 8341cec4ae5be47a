use Rattle.std.proofs.Common.{not}
use Rattle.wb_cells.specs.declared.cells.cell.Cell.TheVariants.{Object}
use Rattle.wb_book.specs.Joined.{stored_in}
use Rattle.wb_book.specs.After.{is_array}
use Rattle.wb_book.specs.Kept.{array_in}
use Rattle.wb_book.proofs.Grown.{dropped_more}
use Rattle.wb_book.proofs.change.drop_gone.Goals as goal

pub loop-change-preserved : goal.loop-change-preserved
loop-change-preserved c = λ b.
    dropped_more c.args.stored.now c.loop-change.change-index c.change-item.result b (not (is_array (stored_in c.args.cells.now.entries (Object b))))
    (array_in c.loop-change.arrays.entries b) (array_in c.drop_one.new.arrays.entries b) _
    c.loop-change-test.true c.change-item.is (c.drop_one.ensures b) (c.loop-change.invariant b)
