-- The arrays that are kept, by their names.
use Rattle.std.specs.Prelude.{◌≡◌, ℕ, ℤ, Bool, false, ◌&&◌, List, [], ◌∷◌, Option, map, Some, None, option_map, is_some}
use Rattle.std.specs.BTreeMap.{is_at}
use Rattle.std.specs.Cmp.Lexicographic.{slice_cmp}
use Rattle.std.specs.Map.{lookup, set_value}
use Rattle.std.specs.Ordering.{nat_cmp}
use Rattle.wb_dist.specs.Maps.{LayoutMap}
use Rattle.wb_cells.specs.declared.values.index.Index.{Index}
use Rattle.std.specs.FinMap.{get}
use Rattle.selective_undo.specs.declared.Change.{Change}
use Rattle.wb_cells.specs.declared.cells.cell.Cell.{Cell}
use Rattle.wb_cells.specs.declared.cells.cell.Cell.TheVariants.{Element}
use Rattle.wb_cells.specs.declared.cells.value.Value.{Value}
use Rattle.wb_cells.specs.declared.cells.value.Value.TheVariants.{Number}
use Rattle.wb_elements.specs.Entries.{with_all}
use Rattle.wb_book.specs.Joined.{element_in}
use Rattle.wb_cells.specs.Cells.{Name, Cells, Changes, index_cmp}

-- an array: its elements after their indices, the mapping that they lie by, and the rank of the indices, 0 for texts
abbrev pub Pieced : Type 0
Pieced = List (Index × ℤ) × (LayoutMap × ℕ)

abbrev pub array_in : List (Name × Pieced) → Name → Option Pieced
array_in arrays a = lookup (is_at (slice_cmp nat_cmp a)) arrays

-- the array with another element at an index, if it has the index
abbrev pub with_element : Option Pieced → Index → ℤ → Option Pieced
with_element o i v = option_map (λ p. (set_value (is_at (index_cmp i)) p.0 v, p.1)) o

-- the array with all those elements that changes set
abbrev pub with_elements : {I : Type 0} → (I → Index) → Option Pieced → List (I × Option ℤ) → Option Pieced
with_elements f o xs = option_map (λ p. (with_all f p.0 xs, p.1)) o

-- the arrays have the elements that the cells say
abbrev pub Agree : List (Name × Pieced) → Cells → Type 0
Agree arrays s = (a : Name) (i : Index) → option_map Number (element_in arrays a i) ≡ get s (Element a i)

abbrev pub number_in : Option Value → Option ℤ
number_in (Some (Number z)) = Some z
number_in _ = None

abbrev pub sets_at : (Name → Index → Option ℤ) → Cell → Option Value → Bool
sets_at element (Element a i) v = is_some (number_in v) && is_some (element a i)
sets_at element _ v = false

-- the change of an element to a number
abbrev pub element_set : Name → Index → ℤ → Changes
element_set a i v = record { cell = Element a i; value = Some (Number v) } ∷ []

-- whether a change sets an element that is there
abbrev pub is_set : (Name → Index → Option ℤ) → Change Cell Value → Bool
is_set element x = sets_at element x.cell x.value

-- the elements of an array, each after its index
abbrev pub pairs_of : Option Pieced → List (Index × ℤ)
pairs_of None = []
pairs_of (Some p) = p.0

-- elements of an array as cells
abbrev pub element_cells : Name → List (Index × ℤ) → List (Cell × Value)
element_cells a es = map (λ e. (Element a e.0, Number e.1)) es

-- a cell with its value, if it has one
abbrev pub one_cell : Cell → Option Value → List (Cell × Value)
one_cell c None = []
one_cell c (Some v) = (c, v) ∷ []
