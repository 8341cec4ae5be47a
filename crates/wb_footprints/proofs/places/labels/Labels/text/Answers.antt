use Rattle.std.proofs.Common.{List, ◌<◌, length, sym, ap, subst, ◌∙◌}
use Rattle.std.specs.List.{slice_get}
use Rattle.wb_footprints.specs.HeldLabels.{texts_of}
use Rattle.wb_footprints.specs.Texts.{Text}
use Rattle.wb_footprints.proofs.places.labels.Labels.text.Goals as goal

pub text-requires : goal.text-requires
text-requires c = subst (λ (ts : List Text). c.args.at < length ts) (sym c.self.view_is ∙ ap texts_of c.in-Listed.is) c.requires

pub returns-in-Listed-clause-text : goal.returns-in-Listed-clause-text
returns-in-Listed-clause-text c = ap (λ ts. slice_get ts c.args.at) (sym c.self.view_is ∙ ap texts_of c.in-Listed.is) ∙ c.text.ensures.text
