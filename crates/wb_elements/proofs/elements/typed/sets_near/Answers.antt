use Rattle.std.proofs.Common.{◌&&◌, is_some, ℤ, Option, sym, ap, ◌∙◌}
use Rattle.wb_elements.specs.Entries.{element_at}
use Rattle.wb_elements.specs.Piecewise.Indexed.{indexed}
use Rattle.wb_elements.proofs.Piecewise.Indexed.{value_at-indexed}
use Rattle.wb_elements.proofs.elements.typed.sets_near.Goals as goal

pub returns-in-Some : goal.returns-in-Some
returns-in-Some g c =
    let f = g.D.Index.AsIndex.as_index in
    let k = c.args.change.now.0 in
    let es = c.args.pieces.now.0 in
    c.is_some.ensures
    ∙ ap is_some (c.get_from-found.ensures ∙ sym (value_at-indexed g.D.Index.Ord.cmp f g.D.Index.AsIndex.is_of g.met.D.Index.AsIndex.alike es k))
    ∙ ap (λ (o : Option ℤ). is_some o && is_some (element_at (indexed f es) (f k))) (sym c.in-Some.is)
