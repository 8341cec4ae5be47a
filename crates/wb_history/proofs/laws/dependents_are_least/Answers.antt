use Rattle.selective_undo.proofs.Dependents.{no_shorter_law}
use Rattle.wb_cells.specs.Schema.{workbook}
use Rattle.wb_history.proofs.laws.dependents_are_least.Goals as goal

pub returns : goal.returns
returns c = no_shorter_law workbook
