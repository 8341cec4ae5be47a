use Rattle.std.proofs.Common.{ap, ◌∙◌}
use Rattle.wb_elements.specs.Piecewise.Indexed.{indexed}
use Rattle.wb_elements.proofs.Blocks.{filled-indexed, all_of-keys, keys-indexed}
use Rattle.wb_elements.proofs.elements.fill_in.Goals as goal

pub returns-clause-done : goal.returns-clause-done
returns-clause-done g c = λ h.
    let f = g.D.Index.AsIndex.as_index in
    ap (indexed f) (c.fill.ensures.done h) ∙ filled-indexed f c.args.pieces.now.0 c.args.number.now

pub returns-clause-kept : goal.returns-clause-kept
returns-clause-kept g c = all_of-keys g.D.Index.AsIndex.as_index g.D.Index.AsIndex.is_of c.args.pieces.now.0 c.fill.new.self.0 c.fill.ensures.indices c.requires

pub returns-clause-names : goal.returns-clause-names
returns-clause-names g c = keys-indexed g.D.Index.AsIndex.as_index c.args.pieces.now.0 c.fill.new.self.0 c.fill.ensures.indices
