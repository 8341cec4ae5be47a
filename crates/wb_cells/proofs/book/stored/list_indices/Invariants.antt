use Rattle.std.proofs.Common.{◌≡◌, ◌++◌, drop}
use Rattle.wb_cells.specs.Stored.{member_cells}
use Rattle.wb_cells.proofs.book.stored.list_indices.Given as goal

-- the cells so far and those of the indices that are left
abbrev pub invariant-loop-index : goal.invariant-loop-index
invariant-loop-index l = l.found.items ++ member_cells (l.domain, drop l.index-index l.indices) ≡ l.fn.found.items ++ member_cells (l.domain, l.indices)
