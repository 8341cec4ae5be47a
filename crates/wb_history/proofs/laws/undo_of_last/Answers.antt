use Rattle.selective_undo.proofs.Inverses.{last_law}
use Rattle.wb_cells.specs.Schema.{workbook}
use Rattle.wb_history.proofs.laws.undo_of_last.Goals as goal

pub returns : goal.returns
returns c = last_law workbook
