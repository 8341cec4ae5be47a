use Rattle.std.proofs.Common.{◌≡◌, take, false, IsSome}
use Rattle.std.specs.FinMap.{get}
use Rattle.selective_undo.specs.Changes.{apply, changes, sets}
use Rattle.wb_cells.specs.declared.cells.cell.Cell.{Cell}
use Rattle.wb_cells.specs.Cells.{cell_cmp, state_of}
use Rattle.wb_cells.specs.Runs.{changes_in}
use Rattle.wb_book.proofs.storing.set_each.Given as goal

abbrev pub invariant-loop-at : goal.invariant-loop-at
invariant-loop-at l = record {
  set : state_of l.cells ≡ apply (sets (take l.at (changes_in l.run.form))) (state_of l.fn.cells);
  others : (c : Cell) → changes cell_cmp (sets (changes_in l.run.form)) c ≡ false → get (state_of l.cells) c ≡ get (state_of l.fn.cells) c;
  stays : (c : Cell) → IsSome (get (state_of l.fn.cells) c) → IsSome (get (state_of l.cells) c);
}
