-- Lists of changes that are kept in runs.
use Rattle.std.specs.Prelude.{◌≡◌, ⊤, ℕ, ◌+◌, ◌<◌, ◌≤◌, ℤ, List, [], ◌∷◌, ◌++◌, length, map, Option, Some, None, option_map}
use Rattle.std.specs.List.{flat_map, zip}
use Rattle.std.specs.Global.{Vec}
use Rattle.selective_undo.specs.declared.Change.{Change}
use Rattle.wb_cells.specs.declared.cells.cell.Cell.{Cell}
use Rattle.wb_cells.specs.declared.cells.cell.Cell.TheVariants.{In, Member, Element}
use Rattle.wb_cells.specs.declared.cells.value.Value.{Value}
use Rattle.wb_cells.specs.declared.cells.value.Value.TheVariants.{Present, Number}
use Rattle.wb_cells.specs.declared.changes.indexed.IndexedChange.{IndexedChange}
use Rattle.wb_cells.specs.declared.changes.row.IndexedRow.{IndexedRow}
use Rattle.wb_cells.specs.declared.changes.row.IndexedRow.TheVariants.{Inside, Members, Elements}
use Rattle.wb_cells.specs.declared.changes.row.RowKind.{RowKind}
use Rattle.wb_cells.specs.declared.changes.row.RowKind.TheVariants as k
use Rattle.wb_cells.specs.declared.changes.run.RunForm.{RunForm}
use Rattle.wb_cells.specs.declared.changes.run.RunForm.TheVariants.{One, Rank1, Rank2, Rank3, Labels, Rectangle, Numbers}
use Rattle.wb_cells.specs.declared.changes.run.ChangeRun.{ChangeRun}
use Rattle.wb_cells.specs.declared.values.index.Index.{Index}
use Rattle.wb_cells.specs.declared.values.index.Index.TheVariants.{Point, Text}
use Rattle.wb_cells.specs.Cells.{Changes, Name, count_of}
use Rattle.wb_rect.specs.Product.{product}

-- the cell of an index
abbrev pub cell_of : IndexedRow → Index → Cell
cell_of (Inside d) i = In d i
cell_of (Members d) i = Member d i
cell_of (Elements a) i = Element a i

-- the object whose cells they are
abbrev pub name_of_row : IndexedRow → Name
name_of_row (Inside d) = d
name_of_row (Members d) = d
name_of_row (Elements a) = a

-- which of its cells they are
abbrev pub kind_of_row : IndexedRow → RowKind
kind_of_row (Inside d) = k.Inside
kind_of_row (Members d) = k.Members
kind_of_row (Elements a) = k.Elements

-- what stands in such a cell: an element, or no more than that the index is there
abbrev pub value_of : IndexedRow → ℤ → Value
value_of (Inside d) n = Present
value_of (Members d) n = Present
value_of (Elements a) n = Number n

-- a change of a row by its point, and by the number that is set, if one is
abbrev pub change_at : IndexedRow → List ℤ × Option ℤ → Change Cell Value
change_at row e = record { cell = cell_of row (Point e.0); value = option_map (value_of row) e.1 }

abbrev pub packed_changes : IndexedRow → List (List ℤ × Option ℤ) → Changes
packed_changes row es = map (change_at row) es

-- a change of a row by its label, and by the number that is set, if one is
abbrev pub labelled_at : IndexedRow → List ℕ × Option ℤ → Change Cell Value
labelled_at row e = record { cell = cell_of row (Text e.0); value = option_map (value_of row) e.1 }

abbrev pub labelled_changes : IndexedRow → List (List ℕ × Option ℤ) → Changes
labelled_changes row es = map (labelled_at row) es

-- the change of a cell of a row, by its index and a number
abbrev pub indexed_change : IndexedChange → Change Cell Value
indexed_change e = record { cell = cell_of e.row e.index; value = option_map (value_of e.row) e.number }

-- the same number, or none, at each index of a rectangle
abbrev pub rectangle_entries : List (List ℤ) → Option ℤ → List (List ℤ × Option ℤ)
rectangle_entries rs n = map (λ p. (p, n)) (product rs)

-- numbers at the indices of a rectangle, the first at the first index and so on
abbrev pub numbered_entries : List (List ℤ) → List ℤ → List (List ℤ × Option ℤ)
numbered_entries rs ns = zip (product rs) (map (λ n. Some n) ns)

-- the changes of a run
abbrev pub changes_in : RunForm → Changes
changes_in (One x) = x ∷ []
changes_in (Rank1 p) = packed_changes p.row p.changes.items
changes_in (Rank2 p) = packed_changes p.row p.changes.items
changes_in (Rank3 p) = packed_changes p.row p.changes.items
changes_in (Labels l) = labelled_changes l.0 l.1
changes_in (Rectangle r) = packed_changes r.row (rectangle_entries r.ranges r.number)
changes_in (Numbers r) = packed_changes r.row (numbered_entries r.ranges r.numbers.items)

-- those of runs, one after another
abbrev pub all_changes : List ChangeRun → Changes
all_changes runs = flat_map (λ r. changes_in r.form) runs

abbrev pub in_first : Option (Change Cell Value) → Changes
in_first None = []
in_first (Some x) = x ∷ []

abbrev pub runs_in : Option (Vec ChangeRun) → List ChangeRun
runs_in None = []
runs_in (Some runs) = runs.items

-- the list: the first change, and those of the runs
abbrev pub changes_of : Option (Change Cell Value) → Option (Vec ChangeRun) → Changes
changes_of first runs = in_first first ++ all_changes (runs_in runs)

-- each run knows at which place of the list it begins, where n stand before the runs
abbrev pub AreStarted : ℕ → List ChangeRun → Type 0
AreStarted n [] = ⊤
AreStarted n (r ∷ rs) = (r.start ≡ n) × AreStarted (n + length (changes_in r.form)) rs

-- a place of the list is one of a run
abbrev pub HasPlace : ChangeRun → ℕ → Type 0
HasPlace r at = (r.start ≤ at) × (at < r.start + length (changes_in r.form))

-- the list is counted
pub record IsList (first : Option (Change Cell Value)) (runs : Option (Vec ChangeRun)) (n k : ℕ) : Type 0 where
  pub all : n ≡ length (changes_of first runs)
  pub counted : k ≡ count_of (changes_of first runs)
  pub started : AreStarted (length (in_first first)) (runs_in runs)
