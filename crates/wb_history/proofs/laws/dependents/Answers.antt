use Rattle.selective_undo.proofs.Dependents.{dependents_law}
use Rattle.wb_cells.specs.Schema.{workbook}
use Rattle.wb_history.proofs.laws.dependents.Goals as goal

pub returns : goal.returns
returns c = dependents_law workbook
