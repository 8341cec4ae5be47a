use Rattle.std.proofs.Common.{sym, ap, ◌∙◌}
use Rattle.wb_cells.specs.Shapes.{indices}
use Rattle.wb_cells.specs.WellFormed.{has}
use Rattle.wb_footprints.specs.Points.{in_points}
use Rattle.wb_footprints.specs.Held.{points_of}
use Rattle.wb_footprints.proofs.InCommon.{has_among}
use Rattle.wb_footprints.proofs.places.points.Points.contains.Goals as goal

pub returns-in-Within : goal.returns-in-Within
returns-in-Within c =
    c.contains.ensures
    ∙ ap (has (indices c.in-Within.area)) c.new.ensures
    ∙ has_among c.in-Within.area c.args.point.now
    ∙ ap (λ ps. in_points ps c.args.point.now) (sym (ap points_of c.in-Within.is) ∙ c.self.view_is)
