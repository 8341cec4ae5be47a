-- The pieces of an array are the array, dealt out to the locales of its domain's mapping.
use Rattle.std.specs.Prelude.{◌≡◌, ◌↔◌, ◌<◌, ℕ, ℤ, List, Some, Ok, IsOk}
use Rattle.std.specs.FinMap.{get}
use Rattle.std.specs.List.{Contains}
use Rattle.wb_range.specs.Domain.{IsListedOnce}
use Rattle.wb_cells.specs.declared.cells.cell.Cell.TheVariants.{Element}
use Rattle.wb_cells.specs.declared.cells.kind.Kind.{Kind}
use Rattle.wb_cells.specs.declared.cells.value.Value.TheVariants.{Number}
use Rattle.wb_cells.specs.declared.values.index.Index.{Index}
use Rattle.wb_cells.specs.Cells.{Name, Cells}
use Rattle.wb_cells.specs.WellFormed.{IsWellFormed, array_at}
use Rattle.wb_history.specs.Pieces.{mapped_at, locales_of, piece_of}

-- the number is the array's element at the index before it
abbrev pub IsElementOf : Cells → (a : Name) → Index × ℤ → Type 0
IsElementOf s a x = get s (Element a x.0) ≡ Some (Number x.1)

-- it is in the piece of the array on a locale
abbrev pub IsInPiece : Cells → (a : Name) → (l : ℕ) → Index × ℤ → Type 0
IsInPiece s a l x = (xs : List (Index × ℤ)) × (piece_of s a l ≡ Ok xs) × Contains xs x

-- The pieces of the array a over the domain d are the array.
pub record AreArray (s : Cells) (a d : Name) : Type 0 where
  -- each locale of the mapping by which d goes has one, and no other number has
  pub there : (l : ℕ) → IsOk (piece_of s a l) ↔ (l < locales_of s (mapped_at s d))
  -- each element is in the piece of one locale, and in that of no other
  pub each : (x : Index × ℤ) → IsElementOf s a x → (l : ℕ) × IsInPiece s a l x × ((m : ℕ) → IsInPiece s a m x → m ≡ l)
  -- what is in a piece is an element, and is there once
  pub only : (l : ℕ) (x : Index × ℤ) → IsInPiece s a l x → IsElementOf s a x
  pub once : (l : ℕ) (xs : List (Index × ℤ)) → piece_of s a l ≡ Ok xs → IsListedOnce xs

-- So it is for each array of a well-formed workbook.
abbrev pub PiecesLaw : Type 0
PiecesLaw = (s : Cells) (a d : Name) (kind : Kind) → IsWellFormed s → array_at s a ≡ Some (d, kind) → AreArray s a d
