-- Where the changes of cells stand in a list of them, each cell once.
use Rattle.std.specs.Prelude.{◌≡◌, ℕ, suc, if◌then◌else◌, cond, List, [], ◌∷◌, map, get_or, Option, Some, None, option_map}
use Rattle.std.specs.BTreeMap.{BTreeMap}
use Rattle.std.specs.BTreeMap as tree
use Rattle.std.specs.Ordering.{eq_by_cmp}
use Rattle.selective_undo.specs.declared.Change.{Change}
use Rattle.selective_undo.specs.Changes.{AllOnce}
use Rattle.selective_undo.specs.Together.{left_in}
use Rattle.wb_cells.specs.declared.cells.cell.Cell.{Cell}
use Rattle.wb_cells.specs.declared.cells.value.Value.{Value}
use Rattle.wb_cells.specs.declared.cells.pattern.Pattern.{Pattern}
use Rattle.wb_cells.specs.Cells.{Changes, cell_cmp, matches}
use Rattle.wb_cells.specs.Families.{HasName}

-- the place of the first change of a cell
abbrev pub place_in : Changes → Cell → Option ℕ
place_in [] c = None
place_in (x ∷ xs) c = if eq_by_cmp cell_cmp c x.cell then Some 0 else option_map suc (place_in xs c)

-- the objects and the users among the cells that have places are called by names
abbrev pub AreCalled : BTreeMap Cell ℕ → Type 0
AreCalled places = (c : Cell) → tree.ContainsKey cell_cmp places c → HasName c

-- each cell is changed once, and its change is found
pub record IsFound (places : BTreeMap Cell ℕ) (xs : Changes) : Type 0 where
  pub once : AllOnce cell_cmp xs
  pub found : (c : Cell) → tree.get cell_cmp places c ≡ place_in xs c
  pub called : AreCalled places

-- the change at the place of a cell
abbrev pub change_at : Changes → Cell × ℕ → Change Cell Value
change_at xs e = get_or xs e.1 (record { cell = e.0; value = None })

-- of changes, those of the cells that a pattern names, in any order
pub record IsFamily (p : Pattern) (xs own : Changes) : Type 0 where
  pub once : AllOnce cell_cmp own
  pub left : (c : Cell) (v : Option Value) → left_in cell_cmp own c v ≡ cond (matches p c) (left_in cell_cmp xs c v) v

-- what a change leaves in its cell, which had v; without a change v stays
abbrev pub left_by : Option (Change Cell Value) → Option Value → Option Value
left_by None v = v
left_by (Some x) v = x.value

-- cells with their values, as changes that set them
abbrev pub as_changes : List (Cell × Value) → Changes
as_changes es = map (λ e. record { cell = e.0; value = Some e.1 }) es
