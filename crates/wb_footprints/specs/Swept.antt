-- A sweep over an index: which cells it went through, and of which families it asked.
use Rattle.std.specs.Prelude.{◌≡◌, ◌⊎◌, ℕ, ◌<◌, Bool, true, false, List}
use Rattle.std.specs.List.{list_any, Contains}
use Rattle.wb_cells.specs.declared.cells.cell.Cell.{Cell}
use Rattle.wb_cells.specs.Cells.{cell_cmp}
use Rattle.wb_cells.specs.Runs.{cell_of}
use Rattle.wb_cells.specs.declared.changes.row.IndexedRow.{IndexedRow}
use Rattle.wb_footprints.specs.declared.foot_index.FootIndex.{FootIndex}
use Rattle.wb_footprints.specs.declared.places.runs.Run.{Run}
use Rattle.wb_footprints.specs.declared.questions.swept.SweptCells.{SweptCells}
use Rattle.wb_footprints.specs.Numbers.{Numbers, numbered}
use Rattle.wb_footprints.specs.Marks.{marked}
use Rattle.wb_cells.specs.declared.values.index.Index.{Index}
use Rattle.wb_footprints.specs.Footprints.{marked_own, marked_family}

-- a sweep went through a cell: it is one of those that it keeps, or of a run that it keeps whole
abbrev pub IsGone : SweptCells → Cell → ℕ → Type 0
IsGone s c k = (marked cell_cmp s.cells c k ≡ true) ⊎
    ((run : Run) × Contains s.runs.items run × ((p : Index) × Contains run.indices p × (c ≡ cell_of run.row p)))

-- All numbers wait that are above another one and are marked at a cell that a sweep went through, or at the family of a cell
-- of whose family it asked.
pub record AreSwept (index : FootIndex) (swept : SweptCells) (waiting : Numbers) (after : ℕ) : Type 0 where
  pub cells : (c : Cell) (k n : ℕ) → IsGone swept c k → after < n → marked_own index c n ≡ true → numbered waiting n ≡ true
  pub families : (c : Cell) (k n : ℕ) → marked cell_cmp swept.families c k ≡ true → after < n → marked_family index c n ≡ true → numbered waiting n ≡ true

-- a test fails at each index of a row whose cell is one of those that a sweep keeps
abbrev pub FailsBehind : SweptCells → IndexedRow → (Index → Bool) → Type 0
FailsBehind s row f = (p : Index) (k : ℕ) → marked cell_cmp s.cells (cell_of row p) k ≡ true → f p ≡ false

-- All numbers wait that are above another one and are marked at a cell of a row at one of some indices.
abbrev pub AreWaiting : FootIndex → IndexedRow → List Index → Numbers → ℕ → Type 0
AreWaiting index row ps waiting after =
    (n : ℕ) → after < n → list_any (λ p. marked_own index (cell_of row p) n) ps ≡ true → numbered waiting n ≡ true
