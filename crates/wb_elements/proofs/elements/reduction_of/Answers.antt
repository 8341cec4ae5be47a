use Rattle.wb_elements.proofs.Piecewise.Reduced.{reduced-indexed}
use Rattle.wb_elements.proofs.elements.reduction_of.Goals as goal

pub returns-clause-answer : goal.returns-clause-answer
returns-clause-answer g c = reduced-indexed g.D.Index.AsIndex.as_index c.args.op c.args.pieces.now.0 c.reduce.result c.reduce.ensures.answer
