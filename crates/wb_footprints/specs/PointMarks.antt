-- Which numbers stand at which points: those of one coordinate stand apart, where they take less room.
use Rattle.std.specs.Prelude.{ℕ, ℤ, Bool, false, ◌||◌, [], ◌∷◌, Option, Some, None}
use Rattle.std.specs.Ordering.{int_cmp}
use Rattle.wb_footprints.specs.declared.marks.key_marks.Marks.{Marks}
use Rattle.wb_footprints.specs.declared.marks.point_marks.PointMarks.{PointMarks}
use Rattle.wb_footprints.specs.Marks.{marked}
use Rattle.wb_footprints.specs.Points.{Coordinates, point_cmp}

-- the coordinate of a point that has one alone
abbrev pub single_of : Coordinates → Option ℤ
single_of [] = None
single_of (i ∷ []) = Some i
single_of (i ∷ (j ∷ is)) = None

-- whether a number stands at a point of one coordinate
abbrev pub at_single : Marks ℤ → Coordinates → ℕ → Bool
at_single m [] n = false
at_single m (i ∷ []) n = marked int_cmp m i n
at_single m (i ∷ (j ∷ is)) n = false

-- whether a number stands at a point
abbrev pub point_marked : PointMarks → Coordinates → ℕ → Bool
point_marked m p n = at_single m.single p n || marked point_cmp m.others p n
