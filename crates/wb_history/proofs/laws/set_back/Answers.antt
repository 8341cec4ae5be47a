use Rattle.selective_undo.proofs.Inverses.{set_back_law}
use Rattle.wb_cells.specs.Schema.{workbook}
use Rattle.wb_history.proofs.laws.set_back.Goals as goal

pub returns : goal.returns
returns c = set_back_law workbook
