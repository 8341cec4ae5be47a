use Rattle.wb_elements.proofs.Piecewise.Indexed.{sorted-indexed}
use Rattle.wb_elements.proofs.elements.len_of.Goals as goal

pub returns-clause-ascending : goal.returns-clause-ascending
returns-clause-ascending g c = sorted-indexed g.D.Index.Ord.cmp g.D.Index.AsIndex.as_index g.D.Index.AsIndex.is_of g.met.D.Index.AsIndex.alike
    c.args.pieces.now.0 c.len.ensures.ascending
