-- The cells of a workbook from what is kept: the stored cells, and the elements of each array. That an index is in a
-- rectangular domain follows from the stored shapes.
use Rattle.std.specs.Prelude.{◌≡◌, ℤ, Bool, true, false, List, [], ◌∷◌, ◌++◌, map, filter, Option, option_map, option_and_then}
use Rattle.std.specs.List.{flat_map}
use Rattle.std.specs.Map.{lookup}
use Rattle.std.specs.BTreeMap.{is_at}
use Rattle.std.specs.Cmp.Lexicographic.{slice_cmp}
use Rattle.std.specs.Ordering.{nat_cmp}
use Rattle.selective_undo.specs.declared.Change.{Change}
use Rattle.wb_cells.specs.declared.cells.cell.Cell.{Cell}
use Rattle.wb_cells.specs.declared.cells.cell.Cell.TheVariants.{Shape, In, Element}
use Rattle.wb_cells.specs.declared.cells.value.Value.{Value}
use Rattle.wb_cells.specs.declared.cells.value.Value.TheVariants.{Ranges, Present, Number}
use Rattle.wb_cells.specs.declared.values.index.Index.{Index}
use Rattle.wb_cells.specs.Cells.{Name, cell_cmp, index_cmp}
use Rattle.wb_cells.specs.Shapes.{indices}
use Rattle.wb_cells.specs.WellFormed.{inside_of, ranges_in}

-- the elements of an array as cells
abbrev pub elements_of : {M : Type 0} → Name × (List (Index × ℤ) × M) → List (Cell × Value)
elements_of a = map (λ e. (Element a.0 e.0, Number e.1)) a.1.0

-- that the indices are in a domain, where the cell has the ranges of one
abbrev pub insides_of : Cell × Value → List (Cell × Value)
insides_of (Shape d, Ranges rs) = map (λ i. (In d i, Present)) (indices rs)
insides_of _ = []

-- all cells
abbrev pub joined : {M : Type 0} → List (Cell × Value) → List (Name × (List (Index × ℤ) × M)) → List (Cell × Value)
joined cells arrays = cells ++ (flat_map insides_of cells ++ flat_map elements_of arrays)

-- cells of these kinds are not stored
abbrev pub is_stored : Cell → Bool
is_stored (In d i) = false
is_stored (Element a i) = false
is_stored _ = true

-- the changes of stored cells
abbrev pub stored_part : List (Change Cell Value) → List (Change Cell Value)
stored_part xs = filter (λ x. is_stored x.cell) xs

abbrev pub AllStored : List (Cell × Value) → Type 0
AllStored [] = Unit {0}
AllStored (e ∷ es) = (is_stored e.0 ≡ true) × AllStored es

-- what stands in a cell, by what the stored cells and the arrays answer
abbrev pub answer : (Cell → Option Value) → (Name → Index → Option ℤ) → Cell → Option Value
answer stored element (In d i) = inside_of (ranges_in (stored (Shape d))) i
answer stored element (Element a i) = option_map Number (element a i)
answer stored element c = stored c

abbrev pub stored_in : List (Cell × Value) → Cell → Option Value
stored_in es c = lookup (is_at (cell_cmp c)) es

abbrev pub element_in : {M : Type 0} → List (Name × (List (Index × ℤ) × M)) → Name → Index → Option ℤ
element_in arrays a i = option_and_then (λ x. lookup (is_at (index_cmp i)) x.0) (lookup (is_at (slice_cmp nat_cmp a)) arrays)

-- a cell with what it was
abbrev pub with_answer : (Cell → Option Value) → Change Cell Value → Change Cell Value
with_answer answers x = record { cell = x.cell; value = answers x.cell }
