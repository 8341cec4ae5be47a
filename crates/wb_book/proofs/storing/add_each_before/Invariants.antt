use Rattle.std.proofs.Common.{◌≡◌, ◌++◌, take}
use Rattle.selective_undo.specs.Changes.{inverse, sets}
use Rattle.wb_cells.specs.Cells.{state_of}
use Rattle.wb_cells.specs.Runs.{changes_in}
use Rattle.wb_book.proofs.storing.add_each_before.Given as goal

abbrev pub invariant-loop-at : goal.invariant-loop-at
invariant-loop-at l = l.before ≡ l.fn.before ++ inverse (sets (take l.at (changes_in l.run.form))) (state_of l.cells)
