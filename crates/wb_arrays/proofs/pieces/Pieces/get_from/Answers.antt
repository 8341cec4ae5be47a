use Rattle.std.proofs.Common.{◌≡◌, ap, ◌∙◌}
use Rattle.wb_arrays.specs.Elements.{value_at}
use Rattle.wb_arrays.specs.Pieces.{piece_of}
use Rattle.wb_arrays.proofs.Writes.{value_at-own}
use Rattle.wb_arrays.proofs.pieces.Pieces.get_from.Goals as goal

pub returns : goal.returns
returns g c =
    let cmp = g.D.Index.Ord.cmp in
    let es = c.args.self.now.0 in
    let locale = g.M.Mapping.locale c.args.self.now.1 in
    let own : c.locale_of.result ≡ locale c.args.index = c.locale_of.ensures.value ∙ ap (λ m. g.M.Mapping.locale m c.args.index) c.mapping.ensures.value in
    let piece = c.list_of.ensures.value ∙ ap (piece_of locale es) own in
    c.value_near.ensures ∙ ap (λ xs. value_at cmp xs c.args.index) piece ∙ value_at-own cmp g.met.D.Index.Key.exact locale es c.args.index
