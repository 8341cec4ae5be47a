-- Sets of elements of one array as one edit: its commands, and what it reads where each element is there.
use Rattle.std.specs.Prelude.{◌≡◌, ◌≢◌, ℕ, ℤ, List, [], ◌∷◌, ◌++◌, map, Option}
use Rattle.std.specs.List.{flat_map}
use Rattle.selective_undo.specs.Changes.{AllOnce}
use Rattle.selective_undo.specs.Edit.{covers}
use Rattle.wb_cells.specs.declared.cells.cell.Cell.{Cell}
use Rattle.wb_cells.specs.declared.cells.pattern.Pattern.{Pattern}
use Rattle.wb_cells.specs.declared.cells.pattern.Pattern.TheVariants.{One}
use Rattle.wb_cells.specs.declared.reads.ReadRun.{ReadRun}
use Rattle.wb_cells.specs.declared.reads.ReadRun.TheVariants.{Single, Cells}
use Rattle.wb_cells.specs.declared.values.index.Index.{Index}
use Rattle.wb_cells.specs.declared.values.index.Index.TheVariants.{Point}
use Rattle.wb_cells.specs.Cells.{Name, Changes, cell_cmp}
use Rattle.wb_cells.specs.Schema.{workbook}
use Rattle.wb_edit.specs.declared.command.Command.{Command}
use Rattle.wb_edit.specs.declared.command.Command.TheVariants.{Set}
use Rattle.wb_edit.specs.declared.edit.Edit.{Edit}
use Rattle.wb_edit.specs.declared.edit.Edit.TheVariants.{Transaction}
use Rattle.wb_footprints.specs.declared.places.place.Place.{Place}
use Rattle.wb_footprints.specs.Footprints.{read_at}
use Rattle.wb_log.specs.declared.array_sets.SetList.{SetList}
use Rattle.wb_log.specs.declared.array_sets.SetList.TheVariants.{Rank1, Rank2, Rank3}

-- ---- the edit

-- a set at a point: its index, and the number that the element there becomes
abbrev pub set_at : List ℤ × ℤ → Index × ℤ
set_at e = (Point e.0, e.1)

-- the sets of a list, each by its index and number, in order
abbrev pub sets_in : SetList → List (Index × ℤ)
sets_in (Rank1 p) = map set_at p.sets.items
sets_in (Rank2 p) = map set_at p.sets.items
sets_in (Rank3 p) = map set_at p.sets.items

-- a set of an element of an array, as a command
abbrev pub set_command : Name → Index × ℤ → Command
set_command a e = Set a e.0 e.1

abbrev pub set_commands : Name → List (Index × ℤ) → List Command
set_commands a es = map (set_command a) es

-- the transaction of the sets, with a note
abbrev pub sets_edit : Name → SetList → Option (List ℕ) → Edit
sets_edit a list note = Transaction (set_commands a (sets_in list), note)

-- ---- what is kept of it

-- what is read where a look at each of some patterns comes before that at each cell
abbrev pub each_read : List Pattern → Changes → List Pattern
each_read ps xs = flat_map (λ x. ps ++ One x.cell ∷ []) xs

-- the cells of the first run, if it is one of cells
abbrev pub cells_in : List ReadRun → Changes
cells_in [] = []
cells_in (Single p ∷ rs) = []
cells_in (Cells xs ∷ rs) = xs

-- there is one run, of cells, each once, and one at least
pub record AreCells (runs : List ReadRun) : Type 0 where
  pub alone : runs ≡ Cells (cells_in runs) ∷ []
  pub some : cells_in runs ≢ []
  pub once : AllOnce cell_cmp (cells_in runs)

-- Patterns name the same places as others, and the same cells. So whoever asks which edits read a place, or a cell, is told
-- the same by both.
pub record NameAlike (rs qs : List Pattern) : Type 0 where
  pub places : (q : Place) → read_at rs q ≡ read_at qs q
  pub cells : (c : Cell) → covers workbook rs c ≡ covers workbook qs c
