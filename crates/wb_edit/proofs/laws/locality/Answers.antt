use Rattle.selective_undo.proofs.Locality.{locality_law}
use Rattle.wb_cells.specs.Schema.{workbook}
use Rattle.wb_edit.proofs.laws.locality.Goals as goal

pub returns : goal.returns
returns c = locality_law workbook
