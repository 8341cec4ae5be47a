-- How the stored cells are kept: the members of domains in sets of indices, and the cells before and behind them in a map each.
use Rattle.std.specs.Prelude.{◌≡◌, ◌++◌, Bool, true, false, List, map, Option, Some, None, IfSome}
use Rattle.std.specs.BTreeMap.{BTreeMap, IsOrdered, is_at}
use Rattle.std.specs.Cmp.Lexicographic.{slice_cmp}
use Rattle.std.specs.List.{flat_map}
use Rattle.std.specs.List.Sorted.{IsStrictlySortedBy}
use Rattle.std.specs.Map.{lookup}
use Rattle.std.specs.Ordering.{nat_cmp}
use Rattle.selective_undo.specs.declared.Change.{Change}
use Rattle.wb_cells.specs.declared.cells.cell.Cell.{Cell}
use Rattle.wb_cells.specs.declared.cells.cell.Cell.TheVariants.{Object, Shape, In, Member, Mapping, Use, Implicit, Element}
use Rattle.wb_cells.specs.declared.cells.value.Value.{Value}
use Rattle.wb_cells.specs.declared.cells.value.Value.TheVariants.{Present}
use Rattle.wb_cells.specs.declared.values.index.Index.{Index}
use Rattle.wb_cells.specs.Cells.{Name, Stored, cell_cmp, index_cmp}
use Rattle.wb_cells.specs.WellFormed.{has}

-- ---- which cells are kept where

-- the cells that come before all members
abbrev pub is_low : Cell → Bool
is_low (Object n) = true
is_low (Shape d) = true
is_low (In d i) = true
is_low _ = false

-- the cells that come behind all members
abbrev pub is_high : Cell → Bool
is_high (Mapping d) = true
is_high (Use d n) = true
is_high (Implicit a) = true
is_high (Element a i) = true
is_high _ = false

-- the domain and the index that a member tells of
abbrev pub member_of : Cell → Option (Name × Index)
member_of (Member d i) = Some (d, i)
member_of _ = None

abbrev pub value_in : List (Cell × Value) → Cell → Option Value
value_in es c = lookup (is_at (cell_cmp c)) es

-- the map has no cell of another kind
abbrev pub Only : (Cell → Bool) → List (Cell × Value) → Type 0
Only of_kind es = (c : Cell) → of_kind c ≡ false → value_in es c ≡ None

-- ---- members

-- the indices of a domain, if it has some
abbrev pub indices_in : List (Name × List Index) → Name → Option (List Index)
indices_in sets d = lookup (is_at (slice_cmp nat_cmp d)) sets

abbrev pub has_index : Option (List Index) → Index → Bool
has_index None i = false
has_index (Some is) i = has is i

-- whether an index is a member of a domain
abbrev pub is_member : List (Name × List Index) → Name → Index → Bool
is_member sets d i = has_index (indices_in sets d) i

-- the indices of each domain ascend
abbrev pub AscendEach : List (Name × List Index) → Type 0
AscendEach sets = (d : Name) (is : List Index) → indices_in sets d ≡ Some is → IsStrictlySortedBy index_cmp is

-- the members of a domain as cells
abbrev pub member_cells : Name × List Index → List (Cell × Value)
member_cells m = map (λ i. (Member m.0 i, Present)) m.1

-- ---- all cells, in their order

abbrev pub whole : List (Cell × Value) → List (Name × List Index) → List (Cell × Value) → List (Cell × Value)
whole low sets high = low ++ (flat_map member_cells sets ++ high)

abbrev pub stored_of : BTreeMap Cell Value → BTreeMap Name (List Index) → BTreeMap Cell Value → Stored
stored_of low sets high = record { entries = whole low.entries sets.entries high.entries }

-- what holds of the parts
pub record IsStored (low : BTreeMap Cell Value) (sets : BTreeMap Name (List Index)) (high : BTreeMap Cell Value) : Type 0 where
  pub low_only : Only is_low low.entries
  pub high_only : Only is_high high.entries
  pub low_ascends : IsOrdered cell_cmp low
  pub high_ascends : IsOrdered cell_cmp high
  pub names_ascend : IsOrdered (slice_cmp nat_cmp) sets
  pub sets_ascend : AscendEach sets.entries

-- ---- what may be put in

-- in a member stands that it is there, and nothing else
abbrev pub Fits : Cell → Value → Type 0
Fits (Member d i) v = v ≡ Present
Fits c v = Unit {0}

-- where a change sets a cell, its value fits it
abbrev pub FitsChange : Change Cell Value → Type 0
FitsChange x = IfSome x.value (Fits x.cell)
