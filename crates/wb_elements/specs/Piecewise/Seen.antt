-- How the elements of an array are seen, whatever the kind of its domain.
use Rattle.std.specs.Prelude.{◌≡◌, ◌≤◌, ℕ, zero, suc, ℤ, Bool, true, List, Option, Some, None}
use Rattle.std.specs.Map.{keys_of}
use Rattle.wb_cells.specs.declared.values.index.Index.{Index}
use Rattle.wb_cells.specs.declared.values.index.Index.TheVariants.{Point, Text}
use Rattle.wb_cells.specs.Kinds.{is_point, is_text}
use Rattle.wb_cells.specs.Layouts.{is_of_rank}
use Rattle.wb_cells.specs.Shapes.{indices}
use Rattle.wb_dist.specs.Maps.{LayoutMap, whole}
use Rattle.wb_elements.specs.declared.elements.ElementsForm.{ElementsForm}
use Rattle.wb_elements.specs.declared.elements.ElementsForm.TheVariants.{Rank1, Rank2, Rank3, Text as Texts}
pub use Rattle.wb_elements.specs.Piecewise.Indexed.{indexed, AllOf}

-- the elements with their indices, the mapping that they lie by, and the rank of the indices: 0 for texts
abbrev pub seen_of : ElementsForm → List (Index × ℤ) × (LayoutMap × ℕ)
seen_of (Rank1 p) = (indexed Point p.0, (p.1, 1))
seen_of (Rank2 p) = (indexed Point p.0, (p.1, 2))
seen_of (Rank3 p) = (indexed Point p.0, (p.1, 3))
seen_of (Texts p) = (indexed Text p.0, (whole, 0))

-- an index has so many coordinates, and where they are 0, it is a text
abbrev pub is_of_form : ℕ → Index → Bool
is_of_form zero i = is_text i
is_of_form (suc n) i = is_point (suc n) i

-- elements at indices of a rank may lie by a mapping: texts all on one locale, and points of one, two or three dimensions by a
-- mapping for them
abbrev pub MayLie : LayoutMap → ℕ → Type 0
MayLie m zero = m ≡ whole
MayLie m (suc n) = (suc n ≤ 3) × (is_of_rank (suc n) m ≡ true)

-- the indices have the form that they are kept in
abbrev pub IsKept : ElementsForm → Type 0
IsKept (Rank1 p) = AllOf Point (is_point 1) p.0
IsKept (Rank2 p) = AllOf Point (is_point 2) p.0
IsKept (Rank3 p) = AllOf Point (is_point 3) p.0
IsKept (Texts p) = AllOf Text is_text p.0

-- the indices are those of the ranges that are known, in their order
abbrev pub AreRanged : Option (List (List ℤ)) → List (Index × ℤ) → Type 0
AreRanged None es = Unit {0}
AreRanged (Some rs) es = keys_of es ≡ indices rs

-- what is kept of the elements of an array
pub record AreElements (form : ElementsForm) (ranges : Option (List (List ℤ))) : Type 0 where
  pub kept : IsKept form
  pub ranged : AreRanged ranges (seen_of form).0
