-- Changes of elements at the indices of a rectangle.
use Rattle.std.specs.Prelude.{◌≡◌, ℤ, List, length, Option}
use Rattle.wb_cells.specs.declared.values.index.Index.{Index}
use Rattle.wb_cells.specs.declared.values.index.Index.TheVariants.{Point}
use Rattle.wb_cells.specs.Runs.{rectangle_entries, numbered_entries}
use Rattle.wb_rect.specs.Product.{product}
use Rattle.wb_elements.specs.declared.kept.KeptChanges.{KeptChanges}
use Rattle.wb_elements.specs.declared.kept.KeptChanges.TheVariants.{Listed, Same, Each}
use Rattle.wb_elements.specs.Piecewise.Marked.{as_changes}

-- each index of a rectangle becomes a number
abbrev pub IsWhole : List (List ℤ) → List (List ℤ × Option ℤ) → Type 0
IsWhole rs es = (ns : List ℤ) × (length ns ≡ length (product rs)) × (es ≡ numbered_entries rs ns)

-- the changes of elements that are kept
abbrev pub listed : KeptChanges → List (Index × Option ℤ)
listed (Listed v) = v.items
listed (Same b) = as_changes Point (rectangle_entries b.ranges b.number)
listed (Each b) = as_changes Point (numbered_entries b.ranges b.numbers.items)
