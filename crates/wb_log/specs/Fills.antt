-- A fill of several elements of an array: what it reads where each of them is there, and what is kept of it.
use Rattle.std.specs.Prelude.{ℤ, List, [], ◌∷◌, map, Option, Some, None}
use Rattle.wb_cells.specs.declared.cells.cell.Cell.TheVariants.{Object}
use Rattle.wb_cells.specs.declared.cells.pattern.Pattern.{Pattern}
use Rattle.wb_cells.specs.declared.cells.pattern.Pattern.TheVariants.{One}
use Rattle.wb_cells.specs.declared.cells.value.Value.{Value}
use Rattle.wb_cells.specs.declared.cells.value.Value.TheVariants.{Number}
use Rattle.wb_cells.specs.declared.changes.row.IndexedRow.TheVariants.{Elements}
use Rattle.wb_cells.specs.Cells.{Name, Changes}
use Rattle.wb_cells.specs.Reads.{patterns_of}
use Rattle.wb_cells.specs.Runs.{packed_changes, rectangle_entries, numbered_entries}
use Rattle.wb_cells.specs.Shapes.{Range}
use Rattle.wb_log.specs.declared.filled_cells.FilledCells.{FilledCells}

-- the elements of an array at the indices of a rectangle, in order, as the changes that clear them
abbrev pub filled_cells : Name → List Range → Changes
filled_cells a on = packed_changes (Elements a) (rectangle_entries on None)

-- what is read where a look at an array comes before those at cells
abbrev pub array_reads : Name → Changes → List Pattern
array_reads a xs = One (Object a) ∷ patterns_of xs

-- the values that changes set, in order
abbrev pub values_in : Changes → List (Option Value)
values_in xs = map (λ x. x.value) xs

-- numbers, as values
abbrev pub values_of : List ℤ → List (Option Value)
values_of ns = map (λ n. Some (Number n)) ns

-- numbers that the elements of an array at the indices of a rectangle held, the first at the first index and so on, as the changes
-- that set them back
abbrev pub held_cells : Name → List Range → List ℤ → Changes
held_cells a on ns = packed_changes (Elements a) (numbered_entries on ns)

-- the same, lent
abbrev pub filled_in : FilledCells → Changes
filled_in f = held_cells f.array.now f.on.now f.numbers.now
