use Rattle.std.proofs.Common.{ℕ, List, subst}
use Rattle.std.specs.List.{AllByRecursion}
use Rattle.wb_sets.specs.Labels.{IsLabel}
use Rattle.wb_footprints.proofs.InLabels.{kept_labels}
use Rattle.wb_footprints.proofs.places.label_list.LabelList.len.Goals as goal

pub returns-clause-labels : goal.returns-clause-labels
returns-clause-labels c = subst (λ (ts : List (List ℕ)). AllByRecursion IsLabel ts) c.self.view_is
    (kept_labels c.self.inside.bytes.items c.self.inside.places.items c.self.invariant)
