-- The canonical texts of literals: each value has one. A comma is followed by one space, no other space stands between
-- tokens, and integers have no needless zeros.
use Rattle.std.specs.Prelude.{ℕ, ℤ, pos, List, [], ◌∷◌, ◌++◌, codes, Option, Some, None, if◌then◌else◌}
use Rattle.std.specs.Fmt.{signed_decimal}
use Rattle.std.specs.List.{join_by}
use Rattle.std.specs.Ordering.{int_eq}
use Rattle.wb_range.specs.Canonical.{bounds_of}
use Rattle.wb_range.specs.Steps.{stride_of}
use Rattle.wb_dist.specs.Maps.{LayoutMap, whole, block, cyclic, block_cyclic}
use Rattle.wb_literals.specs.RangeText.{range_text}
use Rattle.wb_cells.specs.declared.values.index.Index.{Index}
use Rattle.wb_cells.specs.declared.values.index.Index.TheVariants.{Point, Text}

-- ---- lists

-- a further item, after a comma
abbrev pub further : {X : Type 0} → (X → List ℕ) → X → List ℕ
further text x = codes ", " ++ text x

-- items between an opening and a closing token, separated by commas
abbrev pub enclosed : {X : Type 0} → (left right : List ℕ) → (X → List ℕ) → List X → List ℕ
enclosed left right text xs = left ++ (join_by text (codes ", ") xs ++ right)

-- ---- ranges and rectangles (Chapel Language Specification, Ranges and Domains)

-- a stride is written where it is not 1
abbrev pub written_stride : ℤ → Option ℤ
written_stride stride = if int_eq stride (pos 1) then None else Some stride

-- the least index, the greatest index and the stride; `1..0` where there is no index
abbrev pub text_of_range : List ℤ → List ℕ
text_of_range xs = range_text (bounds_of xs).0 (bounds_of xs).1 (written_stride (stride_of xs))

-- the ranges in braces
abbrev pub rectangle_text : List (List ℤ) → List ℕ
rectangle_text rs = enclosed (codes "{") (codes "}") text_of_range rs

-- ---- indices and sets

-- an integer stands alone, 2 or 3 of them in parentheses
unfoldable pub point_text : List ℤ → List ℕ
point_text [] = enclosed (codes "(") (codes ")") signed_decimal []
point_text (i ∷ []) = signed_decimal i
point_text (i ∷ (j ∷ is)) = enclosed (codes "(") (codes ")") signed_decimal (i ∷ (j ∷ is))

-- a text stands in quotes
abbrev pub index_text : Index → List ℕ
index_text (Point is) = point_text is
index_text (Text t) = codes "\"" ++ (t ++ codes "\"")

-- the indices in braces, in the order of the list
abbrev pub set_text : List Index → List ℕ
set_text is = enclosed (codes "{") (codes "}") index_text is

-- integers in brackets: a grid, or the elements of an array
abbrev pub integers_text : List ℤ → List ℕ
integers_text xs = enclosed (codes "[") (codes "]") signed_decimal xs

-- ---- mappings (Chapel Language Specification, Domain Maps)

-- a comma, a grid and the closing parenthesis
abbrev pub last_grid_text : List ℤ → List ℕ
last_grid_text grid = codes ", " ++ (integers_text grid ++ codes ")")

-- `none`, or a distribution with its parts
abbrev pub mapping_text : LayoutMap → List ℕ
mapping_text whole = codes "none"
mapping_text (block m) = codes "blockDist(" ++ (rectangle_text m.box ++ last_grid_text m.grid)
mapping_text (cyclic m) = codes "cyclicDist(" ++ (point_text m.start ++ last_grid_text m.grid)
mapping_text (block_cyclic m) = codes "blockCycDist(" ++ (point_text m.start ++ (codes ", " ++ (point_text m.size ++ last_grid_text m.grid)))
