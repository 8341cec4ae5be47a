use Rattle.std.proofs.Common.{refl, sym, ap, ◌∙◌}
use Rattle.wb_arrays.specs.Elements.{value_at}
use Rattle.wb_cells.specs.Cells.{index_cmp}
use Rattle.wb_elements.specs.Piecewise.Indexed.{indexed}
use Rattle.wb_elements.proofs.Piecewise.Indexed.{value_at-indexed, value_at-none}
use Rattle.wb_elements.proofs.elements.value_near.Goals as goal

pub returns-in-None : goal.returns-in-None
returns-in-None g c = sym (value_at-none g.D.Index.Ord.cmp g.D.Index.AsIndex.as_index g.D.Index.AsIndex.is_of c.args.pieces.now.0 c.args.index.now
    c.requires (c.in-None.ensures.none refl))

pub returns-in-Some : goal.returns-in-Some
returns-in-Some g c =
    c.get_from.ensures
    ∙ sym (value_at-indexed g.D.Index.Ord.cmp g.D.Index.AsIndex.as_index g.D.Index.AsIndex.is_of g.met.D.Index.AsIndex.alike c.args.pieces.now.0 c.in-Some.key)
    ∙ ap (value_at index_cmp (indexed g.D.Index.AsIndex.as_index c.args.pieces.now.0)) c.in-Some.ensures.value
