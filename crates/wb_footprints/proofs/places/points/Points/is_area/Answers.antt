use Rattle.std.proofs.Common.{sym, ap, ◌∙◌}
use Rattle.wb_rect.specs.Product.{product}
use Rattle.wb_footprints.specs.Held.{points_of}
use Rattle.wb_footprints.proofs.places.points.Points.is_area.Goals as goal

pub returns-in-Within : goal.returns-in-Within
returns-in-Within c = λ yes. ap product (c.is_same.ensures.0 yes) ∙ sym (ap points_of c.in-Within.is) ∙ c.self.view_is
