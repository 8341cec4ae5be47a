use Rattle.std.proofs.Common.{sym, ◌∙◌}
use Rattle.wb_footprints.specs.Points.{point_cmp}
use Rattle.wb_footprints.proofs.AtMarks.{below_middle}
use Rattle.wb_footprints.proofs.InBlocks.{points_total, points_exact, less_of}
use Rattle.wb_footprints.proofs.places.points.Points.half.Goals as goal

pub returns-then-is_lt-clause-below : goal.returns-then-is_lt-clause-below
returns-then-is_lt-clause-below c = λ i d a b.
    below_middle point_cmp points_total points_exact c.args.self.now c.args.point.now c.point.result _ c.requires.ascending c.point.ensures
    (sym c.cmp.ensures ∙ less_of c.cmp.result (sym c.is_lt.ensures ∙ c.if-is_lt.true)) i d b
