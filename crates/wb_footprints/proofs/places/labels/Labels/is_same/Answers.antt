use Rattle.std.proofs.Common.{sym, ap, ◌∙◌}
use Rattle.wb_footprints.specs.HeldLabels.{texts_of}
use Rattle.wb_footprints.proofs.places.labels.Labels.is_same.Goals as goal

pub returns-in-Listed : goal.returns-in-Listed
returns-in-Listed c = λ yes. sym c.self.view_is ∙ ap texts_of c.in-Listed.is ∙ c.is_list.ensures yes
