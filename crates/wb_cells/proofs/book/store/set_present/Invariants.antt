use Rattle.std.proofs.Common.{◌≡◌, drop, false, IsSome}
use Rattle.std.specs.FinMap.{get}
use Rattle.selective_undo.specs.Changes.{apply, changes, sets}
use Rattle.wb_cells.specs.declared.cells.cell.Cell.{Cell}
use Rattle.wb_cells.specs.Cells.{cell_cmp, state_of}
use Rattle.wb_cells.proofs.book.store.set_present.Given as goal

abbrev pub invariant-loop-x : goal.invariant-loop-x
invariant-loop-x l = record {
  ahead : apply (sets (drop l.x-index l.delta)) (state_of l.cells) ≡ apply (sets l.delta) (state_of l.fn.cells);
  others : (c : Cell) → changes cell_cmp l.delta c ≡ false → get (state_of l.cells) c ≡ get (state_of l.fn.cells) c;
  stays : (c : Cell) → IsSome (get (state_of l.fn.cells) c) → IsSome (get (state_of l.cells) c);
}
