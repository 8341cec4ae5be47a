use Rattle.wb_literals.proofs.Spelled.{integer_whole}
use Rattle.wb_literals.proofs.integer.integer_spelling.Goals as goal

pub returns : goal.returns
returns c = integer_whole
