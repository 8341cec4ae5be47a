use Rattle.std.proofs.Common.{refl}
use Rattle.std.specs.FinMap.{get-empty}
use Rattle.wb_cells.specs.Cells.{cell_cmp}
use Rattle.wb_cells.specs.declared.cells.cell.Cell.TheVariants.{Object}
use Rattle.wb_cells.proofs.Empty.{empty_is_well_formed}
use Rattle.wb_elements.proofs.Ascending.{ascending-nothing}
use Rattle.wb_book.proofs.shelf.Book.new.Goals as goal

pub invariant_of-result : goal.invariant_of-result
invariant_of-result c =
    rw (c.new.ensures, c.new-2.ensures.empty)
    record {
      well_formed = empty_is_well_formed;
      stored = tt;
      ascending = ascending-nothing _;
      by_name = ascending-nothing _;
      lie = λ a. rw (get-empty cell_cmp (Object a)) refl;
    }
