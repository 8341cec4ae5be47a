use Rattle.std.proofs.Common.{◌≡◌, ◌++◌, length}
use Rattle.wb_text.specs.Lines.{elements_at}
use Rattle.wb_reading.proofs.books.elements_along.Given as goal

abbrev pub invariant-loop-index : goal.invariant-loop-index
invariant-loop-index l = l.elements.items ++ elements_at l.book.cells l.array l.members ≡ elements_at l.book.cells l.array l.initial.members

abbrev pub decreases-loop-index : goal.decreases-loop-index
decreases-loop-index l = length l.members
