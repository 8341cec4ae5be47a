use Rattle.std.proofs.Common.{rules, ◌≡◌, sym, ap, ◌∙◌}
use Rattle.wb_elements.proofs.Piecewise.Lent.{only_piece_is}
use Rattle.wb_elements.proofs.elements.only_piece.Goals as goal

pub returns : goal.returns
returns g c =
    let m = c.args.pieces.now.1 in
    let one : c.locales.result ≡ 1 = (search rules) in
    let count : g.M.Mapping.locale_count m ≡ 1 = ap g.M.Mapping.locale_count (sym c.mapping.ensures.value) ∙ sym c.locales.ensures.count ∙ one in
    only_piece_is (g.M.Mapping.locale m) (g.M.Mapping.locale_count m) c.args.pieces.now.0 c.pairs.result count c.mapping.ensures.below c.pairs.ensures.cases
