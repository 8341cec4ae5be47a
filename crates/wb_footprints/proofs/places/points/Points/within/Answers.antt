use Rattle.std.proofs.Common.{ap, ◌∙◌}
use Rattle.std.specs.List.{list_any}
use Rattle.wb_rect.specs.Product.{product}
use Rattle.wb_footprints.proofs.places.points.Points.within.Goals as goal

pub returns : goal.returns
returns c = λ f. c.upward.ensures.alike f ∙ ap (λ rs. list_any f (product rs)) c.ranked.ensures
