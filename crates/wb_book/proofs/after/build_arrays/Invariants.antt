use Rattle.std.proofs.Common.{List, ◌++◌}
use Rattle.wb_cells.specs.Cells.{Name}
use Rattle.wb_book.specs.Joined.{stored_in}
use Rattle.wb_book.specs.After.{lies_at, AreFormed, AreAfter}
use Rattle.wb_book.specs.Kept.{Pieced}
use Rattle.wb_book.proofs.after.build_arrays.Given as goal

abbrev pub invariant-loop-name : goal.invariant-loop-name
invariant-loop-name g l = record {
  ahead : (ys : List (Name × Pieced)) → AreAfter (lies_at (stored_in l.cells.entries)) l.arrays.entries l.name-iterator ys →
      AreAfter (lies_at (stored_in l.cells.entries)) l.arrays.entries l.groups.entries (l.built.items ++ ys);
  formed : AreFormed (lies_at (stored_in l.cells.entries)) l.arrays.entries l.name-iterator;
}
