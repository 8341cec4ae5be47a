use Rattle.std.proofs.Common.{◌≡◌, ◌++◌}
use Rattle.wb_cells.proofs.book.stored.list_map.Given as goal

-- the cells so far and those that are left
abbrev pub invariant-loop-cell : goal.invariant-loop-cell
invariant-loop-cell l = l.found.items ++ l.cell-iterator ≡ l.fn.found.items ++ l.cells.entries
