use Rattle.std.proofs.Common.{◌≡◌, ℕ, List, true, false, Some, IsSome, take}
use Rattle.selective_undo.specs.Changes.{changes}
use Rattle.wb_cells.specs.declared.cells.cell.Cell.TheVariants.{Object}
use Rattle.wb_cells.specs.declared.values.index.Index.{Index}
use Rattle.wb_cells.specs.Cells.{cell_cmp}
use Rattle.wb_book.specs.Joined.{stored_in, element_in}
use Rattle.wb_book.specs.After.{is_array}
use Rattle.wb_book.specs.Kept.{Pieced, array_in}
use Rattle.wb_book.proofs.change.put_new.Given as goal

abbrev pub invariant-loop-change : goal.invariant-loop-change
invariant-loop-change l = record {
  others : (b : List ℕ) → changes cell_cmp l.stored (Object b) ≡ false → array_in l.arrays.entries b ≡ array_in l.fn.arrays.entries b;
  stays : (b : List ℕ) (p : Pieced) → array_in l.fn.arrays.entries b ≡ Some p → array_in l.arrays.entries b ≡ Some p;
  elements : (b : List ℕ) (i : Index) → element_in l.arrays.entries b i ≡ element_in l.fn.arrays.entries b i;
  there : (b : List ℕ) → changes cell_cmp (take l.change-index l.stored) (Object b) ≡ true → is_array (stored_in l.cells.entries (Object b)) ≡ true →
      IsSome (array_in l.arrays.entries b);
}
