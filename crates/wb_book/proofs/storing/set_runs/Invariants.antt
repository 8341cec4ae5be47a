use Rattle.std.proofs.Common.{◌≡◌, take, false, IsSome}
use Rattle.std.specs.FinMap.{get}
use Rattle.selective_undo.specs.Changes.{apply, changes, sets}
use Rattle.wb_cells.specs.declared.cells.cell.Cell.{Cell}
use Rattle.wb_cells.specs.Cells.{cell_cmp, state_of}
use Rattle.wb_cells.specs.Runs.{all_changes}
use Rattle.wb_book.specs.Joined.{stored_part}
use Rattle.wb_book.proofs.storing.set_runs.Given as goal

abbrev pub invariant-loop-run : goal.invariant-loop-run
invariant-loop-run l = record {
  set : state_of l.cells ≡ apply (sets (stored_part (all_changes (take l.run-index l.runs)))) (state_of l.fn.cells);
  others : (c : Cell) → changes cell_cmp (sets (stored_part (all_changes l.runs))) c ≡ false → get (state_of l.cells) c ≡ get (state_of l.fn.cells) c;
  stays : (c : Cell) → IsSome (get (state_of l.fn.cells) c) → IsSome (get (state_of l.cells) c);
}
