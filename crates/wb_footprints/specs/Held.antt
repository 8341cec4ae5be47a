-- Points as they are kept: one by one, as the indices of a rectangle, or one alone.
use Rattle.std.specs.Prelude.{List, [], ◌∷◌}
use Rattle.wb_rect.specs.Product.{product}
use Rattle.wb_footprints.specs.declared.places.points.Held.{Held}
use Rattle.wb_footprints.specs.declared.places.points.Held.TheVariants.{Listed, Within, One}
use Rattle.wb_footprints.specs.Points.{Coordinates}

-- the points
abbrev pub points_of : Held → List Coordinates
points_of (Listed ps) = ps.items
points_of (Within rs) = product rs
points_of (One p) = p ∷ []
