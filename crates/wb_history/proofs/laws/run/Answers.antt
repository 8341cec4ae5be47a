use Rattle.selective_undo.proofs.LogLaws.{run_law}
use Rattle.wb_cells.specs.Schema.{workbook}
use Rattle.wb_history.proofs.laws.run.Goals as goal

pub returns : goal.returns
returns c = run_law workbook
