use Rattle.std.proofs.Common.{◌≡◌, false, take}
use Rattle.std.specs.List.{list_any}
use Rattle.selective_undo.specs.Edit.{covers}
use Rattle.wb_cells.specs.Reads.{read_in}
use Rattle.wb_cells.specs.Schema.{workbook}
use Rattle.wb_log.proofs.blockers.is_covered_by.Given as goal

abbrev pub invariant-loop-run : goal.invariant-loop-run
invariant-loop-run l = list_any (λ r. covers workbook (read_in r) l.cell) (take l.run-index l.runs) ≡ false
