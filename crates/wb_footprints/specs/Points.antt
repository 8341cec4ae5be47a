-- Points of one object.
use Rattle.std.specs.Prelude.{Bool, ℤ, List}
use Rattle.std.specs.Cmp.Lexicographic.{slice_cmp}
use Rattle.std.specs.List.{list_any}
use Rattle.std.specs.Ordering.{int_cmp, eq_by_cmp}
use Rattle.std.specs.declared.cmp.Ordering.{Ordering}

-- an index of integers, as the list of them
abbrev pub Coordinates : Type 0
Coordinates = List ℤ

-- compared from the left
abbrev pub point_cmp : Coordinates → Coordinates → Ordering
point_cmp = slice_cmp int_cmp

-- whether a point is one of some
abbrev pub in_points : List Coordinates → Coordinates → Bool
in_points ps p = list_any (λ q. eq_by_cmp point_cmp q p) ps
