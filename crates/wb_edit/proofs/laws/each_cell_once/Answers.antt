use Rattle.wb_edit.proofs.EachEdit.{each_cell_once}
use Rattle.wb_edit.proofs.laws.each_cell_once.Goals as goal

pub returns : goal.returns
returns c = each_cell_once
