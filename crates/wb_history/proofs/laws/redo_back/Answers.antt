use Rattle.selective_undo.proofs.Inverses.{redo_back_law}
use Rattle.wb_cells.specs.Schema.{workbook}
use Rattle.wb_history.proofs.laws.redo_back.Goals as goal

pub returns : goal.returns
returns c = redo_back_law workbook
