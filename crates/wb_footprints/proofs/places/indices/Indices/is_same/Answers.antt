use Rattle.std.proofs.Common.{sym, ap, ◌∙◌}
use Rattle.wb_footprints.specs.HeldIndices.{indices_of}
use Rattle.wb_footprints.proofs.places.indices.Indices.is_same.Goals as goal

pub returns-in-Points : goal.returns-in-Points
returns-in-Points c = λ yes. sym c.self.view_is ∙ ap indices_of c.in-Points.is ∙ c.are_points.ensures yes

pub returns-in-Labels : goal.returns-in-Labels
returns-in-Labels c = λ yes. sym c.self.view_is ∙ ap indices_of c.in-Labels.is ∙ c.are_labels.ensures yes
