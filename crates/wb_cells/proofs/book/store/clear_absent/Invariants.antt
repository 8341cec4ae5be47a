use Rattle.std.proofs.Common.{◌≡◌, drop}
use Rattle.selective_undo.specs.Changes.{apply, clears}
use Rattle.wb_cells.specs.Cells.{state_of}
use Rattle.wb_cells.proofs.book.store.clear_absent.Given as goal

abbrev pub invariant-loop-x : goal.invariant-loop-x
invariant-loop-x l = apply (clears (drop l.x-index l.delta)) (state_of l.cells) ≡ apply (clears l.delta) (state_of l.fn.cells)
