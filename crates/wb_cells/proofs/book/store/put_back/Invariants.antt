use Rattle.std.proofs.Common.{◌≡◌, drop}
use Rattle.selective_undo.specs.Changes.{apply, AllOnce, HasRoom}
use Rattle.wb_cells.specs.Cells.{cell_cmp, state_of}
use Rattle.wb_cells.proofs.book.store.put_back.Given as goal

abbrev pub invariant-loop-x : goal.invariant-loop-x
invariant-loop-x l = record {
  ahead : apply (drop l.x-index l.before) (state_of l.cells) ≡ apply l.before (state_of l.fn.cells);
  once : AllOnce cell_cmp (drop l.x-index l.before);
  room : HasRoom (drop l.x-index l.before) (state_of l.cells);
}
