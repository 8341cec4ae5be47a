use Rattle.std.proofs.Common.{◌≡◌, ◌++◌, map, take}
use Rattle.wb_cells.specs.Runs.{changes_in}
use Rattle.wb_book.specs.Joined.{answer, stored_in, element_in, with_answer}
use Rattle.wb_book.proofs.after.add_each_before.Given as goal

-- each change that was passed is there with its cell,
-- and has what stands in that cell now as its value
abbrev pub invariant-loop-at : goal.invariant-loop-at
invariant-loop-at l = l.before ≡ l.fn.before ++ map (with_answer (answer (stored_in l.cells.entries) (element_in l.arrays.entries)))
    (take l.at (changes_in l.changes.form))
