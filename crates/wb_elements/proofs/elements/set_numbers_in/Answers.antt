use Rattle.std.proofs.Common.{ap, sym, ◌∙◌}
use Rattle.std.proofs.lemmas.List.{length-map}
use Rattle.wb_elements.specs.Piecewise.Indexed.{indexed}
use Rattle.wb_elements.proofs.Blocks.{numbered-indexed, all_of-keys, keys-indexed}
use Rattle.wb_elements.proofs.elements.set_numbers_in.Goals as goal

pub returns-clause-done : goal.returns-clause-done
returns-clause-done g c = λ h.
    let f = g.D.Index.AsIndex.as_index in
    ap (indexed f) (c.set_all.ensures.done h) ∙ numbered-indexed f c.args.pieces.now.0 c.args.numbers.now

pub returns-clause-many : goal.returns-clause-many
returns-clause-many g c = λ h.
    let f = g.D.Index.AsIndex.as_index in
    c.set_all.ensures.many h ∙ sym (length-map c.args.pieces.now.0 (λ e. (f e.0, e.1)))

pub returns-clause-kept : goal.returns-clause-kept
returns-clause-kept g c =
    all_of-keys g.D.Index.AsIndex.as_index g.D.Index.AsIndex.is_of c.args.pieces.now.0 c.set_all.new.self.0 c.set_all.ensures.indices c.requires

pub returns-clause-names : goal.returns-clause-names
returns-clause-names g c = keys-indexed g.D.Index.AsIndex.as_index c.args.pieces.now.0 c.set_all.new.self.0 c.set_all.ensures.indices
