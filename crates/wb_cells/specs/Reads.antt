-- What was read, in runs.
use Rattle.std.specs.Prelude.{List, [], ◌∷◌, map}
use Rattle.std.specs.List.{flat_map}
use Rattle.wb_cells.specs.declared.cells.cell.Cell.{Cell}
use Rattle.wb_cells.specs.declared.cells.pattern.Pattern.{Pattern}
use Rattle.wb_cells.specs.declared.cells.pattern.Pattern.TheVariants.{One}
use Rattle.wb_cells.specs.Cells.{Changes}
use Rattle.wb_cells.specs.declared.reads.ReadRun.{ReadRun}
use Rattle.wb_cells.specs.declared.reads.ReadRun.TheVariants.{Single, Cells}

-- the pattern of one cell
abbrev pub one_of : Cell → Pattern
one_of c = One c

-- the patterns of the cells of changes
abbrev pub patterns_of : Changes → List Pattern
patterns_of xs = map (λ x. One x.cell) xs

-- those of a run
abbrev pub read_in : ReadRun → List Pattern
read_in (Single p) = p ∷ []
read_in (Cells xs) = patterns_of xs

-- those of runs, one after another
abbrev pub all_read : List ReadRun → List Pattern
all_read runs = flat_map read_in runs
