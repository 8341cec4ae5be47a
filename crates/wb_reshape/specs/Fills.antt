-- What new indices bring to the arrays over a domain.
use Rattle.std.specs.Prelude.{ℤ, pos, List, map, Option, Some}
use Rattle.wb_cells.specs.declared.cells.value.Value.{Value}
use Rattle.wb_cells.specs.declared.cells.value.Value.TheVariants.{Number}
use Rattle.wb_cells.specs.Cells.{Name}

-- the number that a cell holds, and 0 where it holds none
abbrev pub number_or_zero : Option Value → ℤ
number_or_zero (Some (Number x)) = x
number_or_zero _ = pos 0

-- each array with 0
abbrev pub zeros : List Name → List (Name × ℤ)
zeros arrays = map (λ a. (a, pos 0)) arrays
