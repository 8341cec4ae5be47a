use Rattle.selective_undo.proofs.Inverses.{undo_after_redo_law}
use Rattle.wb_cells.specs.Schema.{workbook}
use Rattle.wb_history.proofs.laws.undo_after_redo.Goals as goal

pub returns : goal.returns
returns c = undo_after_redo_law workbook
