use Rattle.std.proofs.Common.{length, sym, ap, ◌∙◌}
use Rattle.wb_rect.specs.Product.{product}
use Rattle.wb_footprints.specs.Held.{points_of}
use Rattle.wb_footprints.proofs.places.points.Points.len.Goals as goal

pub returns-in-Within-clause-value : goal.returns-in-Within-clause-value
returns-in-Within-clause-value c =
    c.count_in.ensures
    ∙ ap (λ rs. length (product rs)) c.ranked.ensures
    ∙ ap length (sym (ap points_of c.in-Within.is) ∙ c.self.view_is)
