-- An index is of footprints, one for some of the numbers: it has a mark at each place where one of them read or touched
-- something.
use Rattle.std.specs.Prelude.{◌≡◌, ℕ, Bool, true, false, ◌||◌, ◌==◌, List, [], ◌∷◌, map, Option, Some, None, if◌then◌else◌}
use Rattle.std.specs.List.{list_any}
use Rattle.selective_undo.specs.Log.{Footprint}
use Rattle.wb_cells.specs.declared.cells.cell.Cell.{Cell}
use Rattle.wb_cells.specs.declared.cells.cell.Cell.TheVariants as c
use Rattle.wb_cells.specs.declared.cells.value.Value.{Value}
use Rattle.wb_cells.specs.declared.cells.pattern.Pattern.{Pattern}
use Rattle.wb_cells.specs.declared.cells.pattern.Pattern.TheVariants as p
use Rattle.selective_undo.specs.Changes.{changes}
use Rattle.selective_undo.specs.Edit.{covers}
use Rattle.wb_cells.specs.Cells.{Changes, Name, cell_cmp}
use Rattle.wb_cells.specs.Schema.{workbook}
use Rattle.wb_cells.specs.Runs.{cell_of}
use Rattle.wb_cells.specs.declared.changes.row.IndexedRow.{IndexedRow}
use Rattle.wb_footprints.specs.declared.places.place.Place.{Place}
use Rattle.wb_footprints.specs.declared.foot_index.FootIndex.{FootIndex}
use Rattle.wb_footprints.specs.declared.marks.place_marks.PlaceMarks.{PlaceMarks}
use Rattle.wb_footprints.specs.declared.places.marking.Marking.{Marking}
use Rattle.wb_footprints.specs.declared.places.marking.Marking.TheVariants.{Own, Families}
use Rattle.wb_cells.specs.declared.values.index.Index.{Index}
use Rattle.wb_footprints.specs.Places.{own, family, place_of, is_same_place, place_marked}

-- what edits read and touched, by their numbers; some numbers have no footprint
abbrev pub Footprints : Type 0
Footprints = ℕ → Option (Footprint workbook)

-- the place of the family of a cell, if cells are marked at that too
abbrev pub family_by : Marking → Cell → Option Place
family_by Own c = None
family_by Families c = family c

-- whether a cell is marked at a place
abbrev pub at_cell : Marking → Cell → Place → Bool
at_cell m c q = is_same_place (own c) q || elim (family_by m c) [ Some f ↦ is_same_place f q | None ↦ false ]

-- whether one of the cells of changes is marked at a place
abbrev pub marked_at : Marking → Changes → Place → Bool
marked_at m xs q = list_any (λ x. at_cell m x.cell q) xs

-- the cells of changes
abbrev pub cells_of : Changes → List Cell
cells_of xs = map (λ x. x.cell) xs

-- the cells of a row at some indices
abbrev pub run_cells : IndexedRow → List Index → List Cell
run_cells row ps = map (cell_of row) ps

-- whether one of the cells of a row at some indices is marked at a place
abbrev pub run_marked : Marking → IndexedRow → List Index → Place → Bool
run_marked m row ps q = list_any (λ p. at_cell m (cell_of row p) q) ps

-- whether changes touch a place: that of a cell, or of its family
abbrev pub touched_at : Changes → Place → Bool
touched_at xs q = marked_at Families xs q

-- whether one of the patterns is that of a place
abbrev pub read_at : List Pattern → Place → Bool
read_at rs q = list_any (λ r. is_same_place (place_of r) q) rs

-- a number stands at no place at which a cell of a row is marked
abbrev pub IsUnmarked : Marking → IndexedRow → PlaceMarks → ℕ → Type 0
IsUnmarked m row marks n = (p : Index) (q : Place) → at_cell m (cell_of row p) q ≡ true → place_marked marks q n ≡ false

-- whether a footprint, where there is one, touched a place
abbrev pub touched_by : Option (Footprint workbook) → Place → Bool
touched_by None q = false
touched_by (Some f) q = touched_at f.touched q

-- whether it read a place
abbrev pub read_by : Option (Footprint workbook) → Place → Bool
read_by None q = false
read_by (Some f) q = read_at f.reads q

-- whether it touched the cell of a place
abbrev pub own_touched_by : Option (Footprint workbook) → Place → Bool
own_touched_by None q = false
own_touched_by (Some f) q = marked_at Own f.touched q

-- A number is marked at none but the places that its footprint read, and at each of them but perhaps those of cells that it
-- touched: that it met such a cell is told by what it touched.
pub record AreReads (marks : PlaceMarks) (footprints : Footprints) : Type 0 where
  pub sound : (q : Place) (n : ℕ) → place_marked marks q n ≡ true → read_by (footprints n) q ≡ true
  pub told : (q : Place) (n : ℕ) → read_by (footprints n) q ≡ true → place_marked marks q n || own_touched_by (footprints n) q ≡ true

-- A number is marked at the places that its footprint touched, and at no others, and at those that it read.
pub record IsIndexOf (index : FootIndex) (footprints : Footprints) : Type 0 where
  pub touched : (q : Place) (n : ℕ) → place_marked index.touched q n ≡ touched_by (footprints n) q
  pub read : AreReads index.read footprints

-- what was read, and what the touched cells were before
abbrev pub footprint : List Pattern → Changes → Footprint workbook
footprint reads before = record { reads = reads; touched = before }

-- what a new value of an element that was there reads: the array, and the element
abbrev pub element_reads : Name → Index → List Pattern
element_reads a i = p.One (c.Object a) ∷ p.One (c.Element a i) ∷ []

-- what such a new value reads, and what the element was before
abbrev pub set_footprint : Name → Index → Option Value → Footprint workbook
set_footprint a i before = footprint (element_reads a i) (record { cell = c.Element a i; value = before } ∷ [])

-- the same footprints, with another one, or none, at a number
abbrev pub with_footprint : Footprints → ℕ → Option (Footprint workbook) → Footprints
with_footprint footprints number f n = if number == n then f else footprints n

-- whether a footprint, where there is one, read or touched a cell
abbrev pub met_by : Option (Footprint workbook) → Cell → Bool
met_by None c = false
met_by (Some f) c = changes cell_cmp f.touched c || covers workbook f.reads c

-- whether it touched a cell that one of the patterns names
abbrev pub touched_one_of : Option (Footprint workbook) → List Pattern → Bool
touched_one_of None rs = false
touched_one_of (Some f) rs = list_any (λ x. covers workbook rs x.cell) f.touched

-- whether it touched the place of one of the patterns
abbrev pub touched_under : Option (Footprint workbook) → List Pattern → Bool
touched_under o rs = list_any (λ r. touched_by o (place_of r)) rs

-- whether a number is marked at the own place of a cell: it touched the cell, or read it by itself
abbrev pub marked_own : FootIndex → Cell → ℕ → Bool
marked_own m c n = place_marked m.touched (own c) n || place_marked m.read (own c) n

-- whether it is marked at the place of the family of a cell, if patterns name that: it read the family
abbrev pub marked_family : FootIndex → Cell → ℕ → Bool
marked_family m c n = elim (family c) [ Some f ↦ place_marked m.read f n | None ↦ false ]

-- whether it is marked at the one or the other
abbrev pub marked_met : FootIndex → Cell → ℕ → Bool
marked_met m c n = marked_own m c n || marked_family m c n

-- whether it read or touched one of some cells
abbrev pub any_met : Option (Footprint workbook) → Changes → Bool
any_met o xs = list_any (λ x. met_by o x.cell) xs
