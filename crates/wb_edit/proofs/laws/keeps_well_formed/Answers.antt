use Rattle.wb_edit.proofs.EachEdit.{keeps_well_formed}
use Rattle.wb_edit.proofs.laws.keeps_well_formed.Goals as goal

pub returns : goal.returns
returns c = keeps_well_formed
