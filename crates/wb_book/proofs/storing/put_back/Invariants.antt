use Rattle.std.proofs.Common.{◌≡◌, drop}
use Rattle.selective_undo.specs.Changes.{apply, AllOnce, HasRoom}
use Rattle.wb_cells.specs.Cells.{cell_cmp, state_of}
use Rattle.wb_book.proofs.storing.put_back.Given as goal

abbrev pub invariant-loop-at : goal.invariant-loop-at
invariant-loop-at l = record {
  ahead : apply (drop l.at l.before) (state_of l.cells) ≡ apply l.before (state_of l.fn.cells);
  once : AllOnce cell_cmp (drop l.at l.before);
  room : HasRoom (drop l.at l.before) (state_of l.cells);
}
