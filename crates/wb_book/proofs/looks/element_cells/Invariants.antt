use Rattle.std.proofs.Common.{◌≡◌, take}
use Rattle.wb_book.specs.Kept.{element_cells}
use Rattle.wb_book.proofs.looks.element_cells.Given as goal

abbrev pub invariant-loop-index : goal.invariant-loop-index
invariant-loop-index l = l.cells.items ≡ element_cells l.array (take l.index-index l.pairs)
