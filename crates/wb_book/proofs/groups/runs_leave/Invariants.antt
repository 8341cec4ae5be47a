use Rattle.std.proofs.Common.{◌≡◌, true, take}
use Rattle.std.specs.List.{list_all}
use Rattle.wb_cells.specs.Runs.{all_changes}
use Rattle.wb_book.specs.Joined.{stored_in}
use Rattle.wb_book.specs.Groups.{leaves}
use Rattle.wb_book.proofs.groups.runs_leave.Given as goal

abbrev pub invariant-loop-run : goal.invariant-loop-run
invariant-loop-run l = list_all (leaves (stored_in l.cells.entries)) (all_changes (take l.run-index l.runs)) ≡ true
