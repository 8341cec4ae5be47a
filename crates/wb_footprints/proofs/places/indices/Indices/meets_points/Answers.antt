use Rattle.std.proofs.Common.{map, sym, ap, ◌∙◌}
use Rattle.std.specs.List.{list_any}
use Rattle.wb_cells.specs.declared.values.index.Index.TheVariants.{Point}
use Rattle.wb_footprints.specs.HeldIndices.{indices_of}
use Rattle.wb_footprints.specs.Indices.{in_indices}
use Rattle.wb_footprints.proofs.InIndices.{points_meet, points_apart}
use Rattle.wb_footprints.proofs.places.indices.Indices.meets_points.Goals as goal

pub returns-in-Points : goal.returns-in-Points
returns-in-Points c = c.meets.ensures ∙ points_meet c.in-Points.own c.args.points.now
    ∙ ap (λ xs. list_any (in_indices xs) (map Point c.args.points.now)) (sym (ap indices_of c.in-Points.is) ∙ c.self.view_is)

pub returns-in-Labels : goal.returns-in-Labels
returns-in-Labels c = points_apart c.in-Labels.field-0 c.args.points.now
    ∙ ap (λ xs. list_any (in_indices xs) (map Point c.args.points.now)) (sym (ap indices_of c.in-Labels.is) ∙ c.self.view_is)
