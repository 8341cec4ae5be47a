use Rattle.std.proofs.Common.{List, ◌<◌, length, sym, ap, subst, ◌∙◌}
use Rattle.std.specs.List.{slice_get}
use Rattle.wb_rect.specs.Product.{product}
use Rattle.wb_footprints.specs.Points.{Coordinates}
use Rattle.wb_footprints.specs.Held.{points_of}
use Rattle.wb_footprints.proofs.places.points.Points.point.Goals as goal

pub returns-in-Listed : goal.returns-in-Listed
returns-in-Listed c =
    ap (λ qs. slice_get qs c.args.at) (sym c.self.view_is ∙ ap points_of c.in-Listed.is ∙ sym c.as_slice.ensures.value) ∙ c.point_of.ensures

pub point_of-requires : goal.point_of-requires
point_of-requires c =
    subst (λ (qs : List Coordinates). c.args.at < length qs) (sym c.self.view_is ∙ ap points_of c.in-Listed.is ∙ sym c.as_slice.ensures.value) c.requires

pub returns-in-Within : goal.returns-in-Within
returns-in-Within c =
    ap (λ qs. slice_get qs c.args.at) (sym c.self.view_is ∙ ap points_of c.in-Within.is ∙ ap product (sym c.ranked.ensures)) ∙ c.point_in.ensures

pub point_in-requires : goal.point_in-requires
point_in-requires c =
    subst (λ (qs : List Coordinates). c.args.at < length qs) (sym c.self.view_is ∙ ap points_of c.in-Within.is ∙ ap product (sym c.ranked.ensures)) c.requires
