use Rattle.wb_text.proofs.Texts.Back.{book_back}
use Rattle.wb_text.proofs.value.laws.found_in_its_text.Goals as goal

pub returns : goal.returns
returns c = book_back
