-- The cells of a workbook, by what is kept of it.
use Rattle.std.specs.Prelude.{◌≡◌, ℕ, ℤ, List, Option, Some, None, option_map}
use Rattle.std.specs.BTreeMap.{BTreeMap}
use Rattle.std.specs.Cmp.Lexicographic.{slice_cmp}
use Rattle.std.specs.FinMap.{from_entries, get}
use Rattle.std.specs.List.Sorted.{IsStrictlySortedBy}
use Rattle.std.specs.Map.{keys_of}
use Rattle.std.specs.Ordering.{nat_cmp}
use Rattle.wb_dist.specs.Maps.{LayoutMap, whole}
use Rattle.wb_cells.specs.declared.cells.cell.Cell.{Cell}
use Rattle.wb_cells.specs.declared.cells.cell.Cell.TheVariants.{Mapping}
use Rattle.wb_cells.specs.declared.cells.kind.DomainKind.{DomainKind}
use Rattle.wb_cells.specs.declared.cells.kind.DomainKind.TheVariants.{Rectangular, Sparse, Associative}
use Rattle.wb_cells.specs.declared.cells.kind.KeyType.TheVariants.{Int, Text}
use Rattle.wb_cells.specs.declared.cells.kind.Kind.{Kind}
use Rattle.wb_cells.specs.declared.cells.value.Value.{Value}
use Rattle.wb_cells.specs.Cells.{Stored, Name, Cells, cell_cmp}
use Rattle.wb_cells.specs.Locales.{mapping_in}
use Rattle.wb_cells.specs.WellFormed.{IsWellFormed, domain_at, array_at}
use Rattle.wb_cells.specs.declared.values.index.Index.{Index}
use Rattle.wb_cells.specs.Readers.{elements}
use Rattle.wb_elements.specs.Piecewise.Lent.{piece_in}
pub use Rattle.wb_book.specs.Kept.{Pieced, array_in}
use Rattle.wb_book.specs.Joined.{joined, AllStored}

-- all cells of the workbook
abbrev pub cells_of : Stored → BTreeMap Name Pieced → Cells
cells_of cells arrays = from_entries (joined cells.entries arrays.entries)

-- the mapping of a domain, with the rank of its indices: a sparse one lies as its parent, an associative one on locale 0
abbrev pub mapping_of : Cells → Name → Option DomainKind → Option (LayoutMap × ℕ)
mapping_of s d (Some (Rectangular rank)) = option_map (λ m. (m, rank)) (mapping_in (get s (Mapping d)))
mapping_of s d (Some (Sparse parent rank)) = option_map (λ m. (m, rank)) (mapping_in (get s (Mapping parent)))
mapping_of s d (Some (Associative Int)) = Some (whole, 1)
mapping_of s d (Some (Associative Text)) = Some (whole, 0)
mapping_of s d None = None

-- how the elements of an array lie
abbrev pub lies_by : Cells → Option (Name × Kind) → Option (LayoutMap × ℕ)
lies_by s (Some (d, kind)) = mapping_of s d (domain_at s d)
lies_by s None = None

-- the elements on a locale of an array that lies so, if there is such an array and such a locale
abbrev pub piece_by : Option (LayoutMap × ℕ) → List (Index × ℤ) → ℕ → Option (List (Index × ℤ))
piece_by None es l = None
piece_by (Some lie) es l = piece_in lie.0 es l

-- the elements of an array on a locale, by the mapping of its domain (Chapel Language Specification, Domain Maps)
abbrev pub piece_at : Cells → Name → ℕ → Option (List (Index × ℤ))
piece_at s a l = piece_by (lies_by s (array_at s a)) (elements s a) l

-- what is kept is a well-formed workbook
pub record IsShelf (cells : Stored) (arrays : BTreeMap Name Pieced) : Type 0 where
  pub well_formed : IsWellFormed (cells_of cells arrays)
  pub stored : AllStored cells.entries
  pub ascending : IsStrictlySortedBy cell_cmp (keys_of cells.entries)
  pub by_name : IsStrictlySortedBy (slice_cmp nat_cmp) (keys_of arrays.entries)
  pub lie : (a : Name) → option_map (λ p. p.1) (array_in arrays.entries a) ≡ lies_by (cells_of cells arrays) (array_at (cells_of cells arrays) a)
