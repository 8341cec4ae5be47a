use Rattle.std.proofs.Common.{sym, ap, ◌∙◌}
use Rattle.wb_footprints.specs.Held.{points_of}
use Rattle.wb_footprints.proofs.places.points.Points.is_list.Goals as goal

pub returns-in-Listed : goal.returns-in-Listed
returns-in-Listed c = λ yes. c.are_same.ensures yes ∙ c.as_slice.ensures.value ∙ sym (ap points_of c.in-Listed.is) ∙ c.self.view_is
