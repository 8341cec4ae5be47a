use Rattle.wb_text.proofs.BookWritten.{one_text_one_list}
use Rattle.wb_text.proofs.SameCells.{same_workbook}
use Rattle.wb_text.proofs.laws.one_text_one_workbook.Goals as goal

pub returns : goal.returns
returns c = λ s t v w e. same_workbook s t v w (one_text_one_list s t v w e)
