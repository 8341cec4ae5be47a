use Rattle.selective_undo.proofs.Undo.{append_law}
use Rattle.wb_cells.specs.Schema.{workbook}
use Rattle.wb_history.proofs.laws.append.Goals as goal

pub returns : goal.returns
returns c = append_law workbook
