use Rattle.selective_undo.proofs.Redo.{redo_law}
use Rattle.wb_cells.specs.Schema.{workbook}
use Rattle.wb_history.proofs.laws.redo.Goals as goal

pub returns : goal.returns
returns c = redo_law workbook
