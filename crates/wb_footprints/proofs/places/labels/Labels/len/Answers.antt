use Rattle.std.proofs.Common.{List, sym, ap, subst, ◌∙◌}
use Rattle.std.specs.List.{AllByRecursion}
use Rattle.wb_sets.specs.Labels.{IsLabel}
use Rattle.wb_footprints.specs.HeldLabels.{texts_of}
use Rattle.wb_footprints.specs.Texts.{Text}
use Rattle.wb_footprints.proofs.places.labels.Labels.len.Goals as goal

pub returns-in-Listed-clause-labels : goal.returns-in-Listed-clause-labels
returns-in-Listed-clause-labels c = subst (λ (ts : List Text). AllByRecursion IsLabel ts) (sym (ap texts_of c.in-Listed.is) ∙ c.self.view_is) c.len.ensures.labels

pub returns-in-One-clause-labels : goal.returns-in-One-clause-labels
returns-in-One-clause-labels c = subst (λ (ts : List Text). AllByRecursion IsLabel ts) (sym (ap texts_of c.in-One.is) ∙ c.self.view_is) (c.count_of.ensures.label, tt)
