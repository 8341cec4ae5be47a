use Rattle.std.proofs.Common.{sym, ap, ◌∙◌}
use Rattle.wb_footprints.specs.HeldLabels.{texts_of}
use Rattle.wb_footprints.proofs.places.labels.Labels.is_list.Goals as goal

pub returns-in-Listed : goal.returns-in-Listed
returns-in-Listed c = λ yes. c.is_same.ensures yes ∙ sym (ap texts_of c.in-Listed.is) ∙ c.self.view_is
