use Rattle.selective_undo.proofs.LogLaws.{record_law}
use Rattle.wb_cells.specs.Schema.{workbook}
use Rattle.wb_history.proofs.laws.records.Goals as goal

pub returns : goal.returns
returns c = record_law workbook
