-- How arrays lie, and which elements they have, by the lines of a workbook.
use Rattle.std.specs.Prelude.{◌≡◌, ℕ, ℤ, List, length, Option, Some, None}
use Rattle.std.specs.BTreeMap.{is_at}
use Rattle.std.specs.List.{zip}
use Rattle.std.specs.Map.{lookup}
use Rattle.wb_dist.specs.Maps.{LayoutMap, whole}
use Rattle.wb_cells.specs.declared.cells.kind.KeyType.TheVariants.{Int, Text}
use Rattle.wb_cells.specs.declared.values.index.Index.{Index}
use Rattle.wb_cells.specs.Cells.{Name, index_cmp}
use Rattle.wb_text.specs.Said.{Line, rectangular, sparse, associative, array, first_line_of}
use Rattle.wb_text.specs.FromLines.Inserted.{last_of}
use Rattle.wb_text.specs.FromLines.Told.{indices_told}
use Rattle.wb_book.specs.Kept.{Pieced, array_in}

-- the mapping of a rectangular domain, and its rank; all on one locale where no line tells of such a domain
abbrev pub rectangle_lies : Option Line → LayoutMap × ℕ
rectangle_lies (Some (rectangular d rs m)) = (m, length rs)
rectangle_lies _ = (whole, 1)

-- how the arrays over a domain lie: a rectangular one has its mapping, a sparse one its parent's, and an associative one has
-- all on one locale, its texts being of rank 0
abbrev pub lies_told : List Line → Option Line → LayoutMap × ℕ
lies_told ls (Some (rectangular d rs m)) = (m, length rs)
lies_told ls (Some (sparse d parent is)) = rectangle_lies (first_line_of parent ls)
lies_told ls (Some (associative d Int is)) = (whole, 1)
lies_told ls (Some (associative d Text is)) = (whole, 0)
lies_told ls _ = (whole, 1)

-- an array over a domain, with the elements xs in the order of the domain's indices
pub record IsColumn (ls : List Line) (d : Name) (xs : List ℤ) (p : Pieced) : Type 0 where
  pub elements : (i : Index) → lookup (is_at (index_cmp i)) p.0 ≡ last_of index_cmp (zip (indices_told (first_line_of d ls)) xs) i
  pub lies : p.1 ≡ lies_told ls (first_line_of d ls)

-- an array, if the line is that of one
abbrev pub IsArrayTold : List Line → Option Line → Option Pieced → Type 0
IsArrayTold ls (Some (array a d xs irv)) o = (p : Pieced) × (o ≡ Some p) × IsColumn ls d xs p
IsArrayTold ls _ o = o ≡ None

-- the arrays that some of the lines tell of
abbrev pub AreArraysTold : List Line → List Line → List (Name × Pieced) → Type 0
AreArraysTold ls some arrays = (a : Name) → IsArrayTold ls (first_line_of a some) (array_in arrays a)
