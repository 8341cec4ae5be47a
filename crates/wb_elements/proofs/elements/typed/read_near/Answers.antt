use Rattle.std.proofs.Common.{sym, ◌∙◌}
use Rattle.wb_elements.proofs.Piecewise.Indexed.{value_at-indexed}
use Rattle.wb_elements.proofs.elements.typed.read_near.Goals as goal

pub returns : goal.returns
returns g c = λ k. (
  c.args.change.now.0,
  (c.get_from-found.ensures
      ∙ sym (value_at-indexed g.D.Index.Ord.cmp g.D.Index.AsIndex.as_index g.D.Index.AsIndex.is_of g.met.D.Index.AsIndex.alike c.args.pieces.now.0
      c.args.change.now.0)) k,
)
