use Rattle.wb_laws.proofs.Pieces.{pieces_law}
use Rattle.wb_laws.proofs.laws.pieces.Goals as goal

pub returns : goal.returns
returns c = pieces_law
