use Rattle.std.proofs.Common.{map, sym, ap, ◌∙◌}
use Rattle.wb_cells.specs.declared.values.index.Index.TheVariants.{Point}
use Rattle.wb_footprints.specs.HeldIndices.{indices_of}
use Rattle.wb_footprints.proofs.places.indices.Indices.are_points.Goals as goal

pub returns-in-Points : goal.returns-in-Points
returns-in-Points c = λ yes. ap (map Point) (c.is_same.ensures yes) ∙ sym (ap indices_of c.in-Points.is) ∙ c.self.view_is
