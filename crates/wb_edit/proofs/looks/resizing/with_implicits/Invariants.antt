use Rattle.std.proofs.Common.{◌≡◌, ◌++◌, map, take}
use Rattle.std.specs.FinMap.{get}
use Rattle.wb_cells.specs.declared.cells.cell.Cell.TheVariants.{Implicit}
use Rattle.wb_cells.specs.Reads.{one_of}
use Rattle.wb_edit.specs.Resizing.{number_or_zero}
use Rattle.wb_edit.proofs.looks.resizing.with_implicits.Given as goal

-- the implicit values of the arrays so far were looked at
abbrev pub invariant-loop-array : goal.invariant-loop-array
invariant-loop-array l = record {
  read : l.footprint ≡ l.fn.footprint ++ map one_of (map Implicit (take l.array-index l.arrays));
  values : l.found.items ≡ map (λ a. (a, number_or_zero (get l.book.cells (Implicit a)))) (take l.array-index l.arrays);
}
