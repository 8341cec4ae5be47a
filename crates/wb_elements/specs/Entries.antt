-- Changes of cells of one row, each by its key and a number.
use Rattle.std.specs.Prelude.{ℤ, Bool, ◌&&◌, List, [], ◌∷◌, map, Option, Some, None, option_map, is_some}
use Rattle.std.specs.BTreeMap.{is_at}
use Rattle.std.specs.Map.{lookup, set_value}
use Rattle.wb_cells.specs.declared.changes.row.IndexedRow.{IndexedRow}
use Rattle.wb_cells.specs.declared.values.index.Index.{Index}
use Rattle.wb_cells.specs.Cells.{Changes, index_cmp}
use Rattle.wb_cells.specs.Runs.{cell_of, value_of}

-- the changes of the cells of a row, where f says for which index a key stands
abbrev pub row_changes : {I : Type 0} → (I → Index) → IndexedRow → List (I × Option ℤ) → Changes
row_changes f row es = map (λ e. record { cell = cell_of row (f e.0); value = option_map (value_of row) e.1 }) es

-- the element at an index
abbrev pub element_at : List (Index × ℤ) → Index → Option ℤ
element_at es i = lookup (is_at (index_cmp i)) es

-- whether a change sets an element that is there
abbrev pub sets_one : {I : Type 0} → (I → Index) → (Index → Option ℤ) → I × Option ℤ → Bool
sets_one f element x = is_some x.1 && is_some (element (f x.0))

-- the elements with another one at an index, if there is one and a number is given
abbrev pub with_one : List (Index × ℤ) → Index → Option ℤ → List (Index × ℤ)
with_one es i None = es
with_one es i (Some v) = set_value (is_at (index_cmp i)) es v

-- the elements with all those that changes set
abbrev pub with_all : {I : Type 0} → (I → Index) → List (Index × ℤ) → List (I × Option ℤ) → List (Index × ℤ)
with_all f es [] = es
with_all f es (x ∷ xs) = with_all f (with_one es (f x.0) x.1) xs

-- the key of a change with the element there
abbrev pub read_one : {I : Type 0} → (I → Index) → (Index → Option ℤ) → I × Option ℤ → I × Option ℤ
read_one f element x = (x.0, element (f x.0))

abbrev pub read_at : {I : Type 0} → (I → Index) → (Index → Option ℤ) → List (I × Option ℤ) → List (I × Option ℤ)
read_at f element xs = map (read_one f element) xs
