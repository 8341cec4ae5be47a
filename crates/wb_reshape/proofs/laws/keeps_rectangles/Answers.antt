use Rattle.wb_reshape.proofs.Rectangles.{keeps_rectangles}
use Rattle.wb_reshape.proofs.laws.keeps_rectangles.Goals as goal

pub returns : goal.returns
returns c = keeps_rectangles
