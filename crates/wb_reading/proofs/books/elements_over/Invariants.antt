use Rattle.std.proofs.Common.{◌≡◌, take}
use Rattle.wb_cells.specs.Shapes.{indices}
use Rattle.wb_text.specs.Lines.{elements_at}
use Rattle.wb_reading.proofs.books.elements_over.Given as goal

abbrev pub invariant-loop-p : goal.invariant-loop-p
invariant-loop-p l = l.elements.items ≡ elements_at l.book.cells l.array (take l.p (indices l.ranges))
