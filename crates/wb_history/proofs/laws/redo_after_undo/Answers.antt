use Rattle.selective_undo.proofs.Inverses.{redo_after_undo_law}
use Rattle.wb_cells.specs.Schema.{workbook}
use Rattle.wb_history.proofs.laws.redo_after_undo.Goals as goal

pub returns : goal.returns
returns c = redo_after_undo_law workbook
