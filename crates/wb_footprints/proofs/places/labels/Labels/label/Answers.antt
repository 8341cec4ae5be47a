use Rattle.std.proofs.Common.{List, ◌<◌, length, sym, ap, subst, ◌∙◌}
use Rattle.std.specs.List.{slice_get}
use Rattle.wb_footprints.specs.HeldLabels.{texts_of}
use Rattle.wb_footprints.specs.Texts.{Text}
use Rattle.wb_footprints.proofs.places.labels.Labels.label.Goals as goal

pub label-requires : goal.label-requires
label-requires c = subst (λ (ts : List Text). c.args.at < length ts) (sym c.self.view_is ∙ ap texts_of c.in-Listed.is) c.requires

pub returns-in-Listed : goal.returns-in-Listed
returns-in-Listed c = ap (λ ts. slice_get ts c.args.at) (sym c.self.view_is ∙ ap texts_of c.in-Listed.is) ∙ c.label.ensures
