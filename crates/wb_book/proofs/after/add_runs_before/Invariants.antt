use Rattle.std.proofs.Common.{◌≡◌, ◌++◌, map, take}
use Rattle.wb_cells.specs.Runs.{all_changes}
use Rattle.wb_book.specs.Joined.{answer, stored_in, element_in, with_answer}
use Rattle.wb_book.proofs.after.add_runs_before.Given as goal

-- each change that was passed is there with its cell,
-- and has what stands in that cell now as its value
abbrev pub invariant-loop-run : goal.invariant-loop-run
invariant-loop-run l = l.before ≡ l.fn.before ++ map (with_answer (answer (stored_in l.cells.entries) (element_in l.arrays.entries)))
    (all_changes (take l.run-index l.runs))
