use Rattle.std.proofs.Common.{◌≡◌, true, take}
use Rattle.std.specs.List.{list_all}
use Rattle.wb_cells.specs.Runs.{all_changes}
use Rattle.wb_book.specs.Joined.{element_in}
use Rattle.wb_book.specs.Kept.{is_set}
use Rattle.wb_book.proofs.keep.are_runs_set.Given as goal

abbrev pub invariant-loop-run : goal.invariant-loop-run
invariant-loop-run l = list_all (is_set (element_in l.arrays.entries)) (all_changes (take l.run-index l.runs)) ≡ true
