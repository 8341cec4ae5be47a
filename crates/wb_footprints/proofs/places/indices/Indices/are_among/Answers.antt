use Rattle.std.proofs.Common.{sym, ap, ◌∙◌}
use Rattle.std.specs.List.{list_any}
use Rattle.wb_footprints.specs.HeldIndices.{indices_of}
use Rattle.wb_footprints.proofs.AllAmong.{points_found}
use Rattle.wb_footprints.proofs.places.indices.Indices.are_among.Goals as goal

pub returns-in-Points : goal.returns-in-Points
returns-in-Points c = λ all f met.
    points_found c.args.points.now c.in-Points.own (c.has_all.ensures all) f
    (ap (list_any f) (ap indices_of (sym c.in-Points.is) ∙ c.self.view_is) ∙ met)
