-- All elements of an array become what they and those of another one make.
use Rattle.std.specs.Prelude.{ℤ, List, map}
use Rattle.selective_undo.specs.Edit.{write}
use Rattle.wb_cells.specs.declared.cells.cell.Cell.TheVariants.{Element}
use Rattle.wb_cells.specs.declared.cells.value.Value.TheVariants.{Number}
use Rattle.wb_cells.specs.declared.values.index.Index.{Index}
use Rattle.wb_cells.specs.Cells.{Name, Changes}
use Rattle.wb_edit.specs.declared.operation.Operation.{Operation}
use Rattle.wb_edit.specs.Trees.{Tree, ◌>>=◌}
use Rattle.wb_edit.specs.Looks.{array_named}
use Rattle.wb_edit.specs.Elements.{elements, over_one_domain, results_within}
use Rattle.wb_edit.specs.Writes.{set_to}

-- elements of an array, each with the number after its index
abbrev pub number_cells : Name → List (Index × ℤ) → Changes
number_cells a es = map (λ e. set_to (Element a e.0) (Number e.1)) es

-- each element of an array becomes what it and the element of another array at the same index make: it is seen which
-- elements both have, and all results are within 64 bits
abbrev pub all_results : Name → Operation → Name → Tree
all_results a how b = do
  xs ← elements a
  ys ← elements b
  zs ← results_within how xs ys
  write (number_cells a zs)

-- the same, where the arrays are there, over one domain
abbrev pub all : Name → Operation → Name → Tree
all a how b = do
  (d, kind) ← array_named a
  (e, kind_of_e) ← array_named b
  unit ← over_one_domain d e
  all_results a how b
