use Rattle.std.proofs.Common.{sym, ap, ◌∙◌}
use Rattle.wb_footprints.specs.Held.{points_of}
use Rattle.wb_footprints.proofs.places.points.Points.is_same.Goals as goal

pub returns-in-Listed : goal.returns-in-Listed
returns-in-Listed c = λ yes. sym c.self.view_is ∙ ap points_of c.in-Listed.is ∙ sym c.as_slice.ensures.value ∙ c.is_list.ensures yes

pub returns-in-Within : goal.returns-in-Within
returns-in-Within c = λ yes. sym c.self.view_is ∙ ap points_of c.in-Within.is ∙ c.is_area.ensures yes
