use Rattle.std.proofs.Common.{sym, ap, ◌∙◌}
use Rattle.std.specs.List.{list_any}
use Rattle.wb_cells.specs.Ranks.{ranges_of}
use Rattle.wb_rect.specs.Product.{product}
use Rattle.wb_footprints.specs.Points.{in_points}
use Rattle.wb_footprints.specs.Held.{points_of}
use Rattle.wb_footprints.proofs.InCommon.{shared_back, shared_one}
use Rattle.wb_footprints.proofs.places.points.Points.meets_area.Goals as goal

pub returns-in-Listed : goal.returns-in-Listed
returns-in-Listed c =
    let os = c.args.others.now in
    c.has_one.ensures
    ∙ shared_back os c.as_slice.result.now
    ∙ ap (λ ps. list_any (in_points ps) os) (c.as_slice.ensures.value ∙ sym (ap points_of c.in-Listed.is) ∙ c.self.view_is)

pub returns-in-Within : goal.returns-in-Within
returns-in-Within c =
    c.have_common.ensures
    ∙ ap (λ rs. list_any (in_points (product rs)) (product (ranges_of c.ranked-in-Within.result))) c.ranked.ensures
    ∙ ap (λ rs. list_any (in_points (product c.in-Within.own)) (product rs)) c.ranked-in-Within.ensures
    ∙ ap (λ ps. list_any (in_points ps) (product c.args.area.now)) (sym (ap points_of c.in-Within.is) ∙ c.self.view_is)
    ∙ ap (list_any (in_points c.args.self.now)) (sym c.requires)

pub returns-in-One : goal.returns-in-One
returns-in-One c =
    let os = c.args.others.now in
    c.contains.ensures
    ∙ shared_one os c.in-One.point
    ∙ ap (λ ps. list_any (in_points ps) os) (sym (ap points_of c.in-One.is) ∙ c.self.view_is)
