use Rattle.selective_undo.proofs.Undo.{undo_law}
use Rattle.wb_cells.specs.Schema.{workbook}
use Rattle.wb_history.proofs.laws.undo.Goals as goal

pub returns : goal.returns
returns c = undo_law workbook
