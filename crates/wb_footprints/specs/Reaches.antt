-- Which numbers stand at which indices by blocks of several reaches.
use Rattle.std.specs.Prelude.{ℕ, Bool, List}
use Rattle.std.specs.List.{list_any}
use Rattle.wb_footprints.specs.declared.marks.reach_marks.ReachMarks.{ReachMarks}
use Rattle.wb_cells.specs.declared.values.index.Index.{Index}
use Rattle.wb_footprints.specs.Groups.{in_groups}

-- whether a number stands at an index by a block of one of some reaches
abbrev pub in_reaches : List ReachMarks → Index → ℕ → Bool
in_reaches rs p n = list_any (λ r. in_groups r.groups.entries p n) rs
