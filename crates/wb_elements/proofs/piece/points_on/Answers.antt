use Rattle.std.proofs.Common.{◌≡◌, true, sym, ap, ◌∙◌}
use Rattle.wb_cells.specs.declared.values.index.Index.TheVariants.{Point}
use Rattle.wb_cells.specs.Kinds.{is_point}
use Rattle.wb_cells.specs.Layouts.{is_of_rank}
use Rattle.wb_dist.specs.Maps.{LayoutMap, locale_of}
use Rattle.wb_elements.proofs.Piecewise.Lent.{piece_is, point_locale}
use Rattle.wb_elements.proofs.piece.points_on.Goals as goal

pub returns : goal.returns
returns g c =
    let m : LayoutMap = c.args.pieces.now.1 in
    let rank : is_of_rank g.row.R m ≡ true = ap (is_of_rank g.row.R) (sym c.mapping.ensures.value) ∙ c.rank_validity.ensures in
    piece_is Point (is_point g.row.R) (locale_of m) m (λ i e. point_locale m g.row.R i rank e)
    c.pairs.result c.args.pieces.now.0 c.args.locale c.requires c.pairs.ensures.cases
