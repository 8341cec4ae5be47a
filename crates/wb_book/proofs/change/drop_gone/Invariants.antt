use Rattle.std.proofs.Common.{◌≡◌, ℕ, List, ◌&&◌, not, None, cond, drop}
use Rattle.selective_undo.specs.Changes.{changes}
use Rattle.wb_cells.specs.declared.cells.cell.Cell.TheVariants.{Object}
use Rattle.wb_cells.specs.Cells.{cell_cmp}
use Rattle.wb_book.specs.Joined.{stored_in}
use Rattle.wb_book.specs.After.{is_array}
use Rattle.wb_book.specs.Kept.{array_in}
use Rattle.wb_book.proofs.change.drop_gone.Given as goal

abbrev pub invariant-loop-change : goal.invariant-loop-change
invariant-loop-change l =
    (b : List ℕ) → cond (changes cell_cmp (drop l.change-index l.stored) (Object b) && not (is_array (stored_in l.cells.entries (Object b)))) None
    (array_in l.arrays.entries b)
    ≡ cond (changes cell_cmp l.stored (Object b) && not (is_array (stored_in l.cells.entries (Object b)))) None (array_in l.fn.arrays.entries b)
