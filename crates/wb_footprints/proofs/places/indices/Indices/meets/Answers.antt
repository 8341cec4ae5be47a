use Rattle.std.proofs.Common.{sym, ap, ◌∙◌}
use Rattle.std.specs.List.{list_any}
use Rattle.wb_footprints.specs.HeldIndices.{indices_of}
use Rattle.wb_footprints.specs.Indices.{in_indices}
use Rattle.wb_footprints.proofs.places.indices.Indices.meets.Goals as goal

pub returns-in-Points : goal.returns-in-Points
returns-in-Points c = c.meets_points.ensures ∙ ap (list_any (in_indices c.args.self.now)) (sym (ap indices_of c.in-Points.is) ∙ c.others.view_is)

pub returns-in-Labels : goal.returns-in-Labels
returns-in-Labels c = c.meets_labels.ensures ∙ ap (list_any (in_indices c.args.self.now)) (sym (ap indices_of c.in-Labels.is) ∙ c.others.view_is)
