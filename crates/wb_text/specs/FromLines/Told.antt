-- The cells that the lines of a workbook tell of.
use Rattle.std.specs.Prelude.{ℕ, ◌==◌, Bool, true, false, ◌&&◌, cond, ℤ, pos, List, [], ◌∷◌, ◌++◌, map, length, Option, Some, None, is_some, option_map}
use Rattle.std.specs.Prelude.{unwrap_or}
use Rattle.std.specs.FinMap.{empty}
use Rattle.std.specs.List.{list_all, zip}
use Rattle.wb_dist.specs.Maps.{LayoutMap}
use Rattle.wb_cells.specs.declared.cells.cell.Cell.{Cell}
use Rattle.wb_cells.specs.declared.cells.cell.Cell.TheVariants.{Object, Shape, In, Member, Mapping, Use, Implicit, Element}
use Rattle.wb_cells.specs.declared.cells.kind.DomainKind.TheVariants as domains
use Rattle.wb_cells.specs.declared.cells.kind.KeyType.{KeyType}
use Rattle.wb_cells.specs.declared.cells.kind.Kind.{Kind}
use Rattle.wb_cells.specs.declared.cells.kind.Kind.TheVariants.{Rectangular, Sparse, Associative}
use Rattle.wb_cells.specs.declared.cells.value.Binding.TheVariants as bindings
use Rattle.wb_cells.specs.declared.cells.value.Value.{Value}
use Rattle.wb_cells.specs.declared.cells.value.Value.TheVariants as values
use Rattle.wb_cells.specs.declared.values.index.Index.{Index}
use Rattle.wb_cells.specs.Cells.{Name, Cells, is_same_name, index_cmp}
use Rattle.wb_cells.specs.Kinds.{is_key}
use Rattle.wb_cells.specs.Layouts.{is_of_rank}
use Rattle.wb_cells.specs.Shapes.{Range, indices}
use Rattle.wb_cells.specs.WellFormed.{has, present_if}
use Rattle.wb_text.specs.Said.{Line, rectangular, sparse, associative, array, name_of, first_line_of}
use Rattle.wb_text.specs.FromLines.Inserted.{inserted, last_of}

-- ---- what a line tells of a domain to those that are bound to it

-- the ranges of a rectangular domain
abbrev pub ranges_told : Option Line → Option (List Range)
ranges_told (Some (rectangular d rs m)) = Some rs
ranges_told _ = None

-- how many dimensions it has; 0 for anything else
abbrev pub rank_told : Option Line → ℕ
rank_told o = length (unwrap_or (ranges_told o) [])

-- what an array knows of its domain; any kind where no line tells of such a domain
abbrev pub kind_told : List Line → Option Line → Kind
kind_told ls (Some (rectangular d rs m)) = Rectangular (length rs)
kind_told ls (Some (sparse d parent is)) = Sparse (rank_told (first_line_of parent ls))
kind_told ls (Some (associative d type is)) = Associative type
kind_told ls _ = Rectangular 0

-- the indices of a domain, in its order
abbrev pub indices_told : Option Line → List Index
indices_told (Some (rectangular d rs m)) = indices rs
indices_told (Some (sparse d parent is)) = is
indices_told (Some (associative d type is)) = is
indices_told _ = []

-- ---- lines that tell of cells

-- whether a line tells of a domain
abbrev pub is_domain : Option Line → Bool
is_domain (Some (rectangular d rs m)) = true
is_domain (Some (sparse d parent is)) = true
is_domain (Some (associative d type is)) = true
is_domain _ = false

-- whether each index is in a rectangular domain
abbrev pub are_within : Option (List Range) → List Index → Bool
are_within (Some rs) is = list_all (has (indices rs)) is
are_within None is = false

-- a mapping is for the rank of its domain, the indices of a sparse domain are of a rectangular one, those of an associative
-- domain of its type, and an array has an element for each index of a domain
abbrev pub is_sound : List Line → Line → Bool
is_sound ls (rectangular d rs m) = is_of_rank (length rs) m
is_sound ls (sparse d parent is) = are_within (ranges_told (first_line_of parent ls)) is
is_sound ls (associative d type is) = list_all (is_key (Associative type)) is
is_sound ls (array a d xs irv) = is_domain (first_line_of d ls) && (length (indices_told (first_line_of d ls)) == length xs)

-- no two lines are of one name
abbrev pub are_distinct : List Line → Bool
are_distinct [] = true
are_distinct (l ∷ ls) = cond (is_some (first_line_of (name_of l) ls)) false (are_distinct ls)

-- ---- the cells that a line tells of

-- the implicit value of an array over a domain of a kind: 0 unless that is sparse, and where none is written
abbrev pub implicit_told : Kind → Option ℤ → ℤ
implicit_told (Rectangular rank) irv = pos 0
implicit_told (Sparse rank) irv = unwrap_or irv (pos 0)
implicit_told (Associative type) irv = pos 0

-- that the indices are in a domain, where the cell of each index says so
abbrev pub presents : (Index → Cell) → List Index → List (Cell × Value)
presents make is = map (λ i. (make i, values.Present)) is

-- the elements of an array at the indices
abbrev pub element_cells : Name → List (Index × ℤ) → List (Cell × Value)
element_cells a ps = map (λ (p : Index × ℤ). (Element a p.0, values.Number p.1)) ps

-- what is stored of a rectangular domain: what it is, its ranges, and its mapping
abbrev pub rectangular_stored : Name → List Range → LayoutMap → List (Cell × Value)
rectangular_stored d rs m = (Object d, values.Domain (domains.Rectangular (length rs))) ∷ (Shape d, values.Ranges rs) ∷ (Mapping d, values.Mapping m) ∷ []

-- all its cells: also which indices are in it
abbrev pub rectangular_cells : Name → List Range → LayoutMap → List (Cell × Value)
rectangular_cells d rs m = rectangular_stored d rs m ++ presents (In d) (indices rs)

-- a sparse domain, all of it stored: what it is, that it is bound to its parent, and its indices
abbrev pub sparse_cells : Name → Name → ℕ → List Index → List (Cell × Value)
sparse_cells d parent rank is = (Object d, values.Domain (domains.Sparse parent rank)) ∷ (Use parent d, values.Bound bindings.Sparse) ∷ presents (Member d) is

-- an associative domain, all of it stored: what it is, and its indices
abbrev pub associative_cells : Name → KeyType → List Index → List (Cell × Value)
associative_cells d type is = (Object d, values.Domain (domains.Associative type)) ∷ presents (Member d) is

-- what is stored of an array: what it is, that it is bound to its domain, and its implicit value
abbrev pub array_stored : Name → Name → Kind → Option ℤ → List (Cell × Value)
array_stored a d kind irv = (Object a, values.Array d kind) ∷ (Use d a, values.Bound bindings.Array) ∷ (Implicit a, values.Number (implicit_told kind irv)) ∷ []

-- all its cells: also its elements
abbrev pub line_array_cells : Name → Name → Kind → List Index → List ℤ → Option ℤ → List (Cell × Value)
line_array_cells a d kind is xs irv = array_stored a d kind irv ++ element_cells a (zip is xs)

-- the stored cells that a line tells of, among all lines
abbrev pub stored_told : List Line → Line → List (Cell × Value)
stored_told ls (rectangular d rs m) = rectangular_stored d rs m
stored_told ls (sparse d parent is) = sparse_cells d parent (rank_told (first_line_of parent ls)) is
stored_told ls (associative d type is) = associative_cells d type is
stored_told ls (array a d xs irv) = array_stored a d (kind_told ls (first_line_of d ls)) irv

-- and the others: which indices are in a domain follows from its ranges, and elements lie in the array
abbrev pub derived_told : List Line → Line → List (Cell × Value)
derived_told ls (rectangular d rs m) = presents (In d) (indices rs)
derived_told ls (array a d xs irv) = element_cells a (zip (indices_told (first_line_of d ls)) xs)
derived_told ls l = []

-- the cells that a line tells of, among all lines
abbrev pub cells_of : List Line → Line → List (Cell × Value)
cells_of ls (rectangular d rs m) = rectangular_cells d rs m
cells_of ls (sparse d parent is) = sparse_cells d parent (rank_told (first_line_of parent ls)) is
cells_of ls (associative d type is) = associative_cells d type is
cells_of ls (array a d xs irv) = line_array_cells a d (kind_told ls (first_line_of d ls)) (indices_told (first_line_of d ls)) xs irv

-- the stored cells of lines among all of them, put in line by line
abbrev pub stored_put : List Line → List Line → Cells → Cells
stored_put ls [] s = s
stored_put ls (l ∷ more) s = stored_put ls more (inserted (stored_told ls l) s)

-- and all their cells
abbrev pub cells_put : List Line → List Line → Cells → Cells
cells_put ls [] s = s
cells_put ls (l ∷ more) s = cells_put ls more (inserted (cells_of ls l) s)

-- the cells that lines tell of
abbrev pub cells_told : List Line → Cells
cells_told ls = cells_put ls ls empty

-- no two lines are of one name, and each is sound
abbrev pub are_sound : List Line → Bool
are_sound ls = are_distinct ls && list_all (is_sound ls) ls

-- ---- what stands in a cell, by the lines

-- whose line tells of a cell
abbrev pub owner : Cell → Name
owner (Object n) = n
owner (Shape d) = d
owner (In d i) = d
owner (Member d i) = d
owner (Mapping d) = d
owner (Use d n) = n
owner (Implicit a) = a
owner (Element a i) = a

-- what the line of its owner tells of a cell
abbrev pub told_of : List Line → Line → Cell → Option Value
told_of ls (rectangular d rs m) (Object n) = Some (values.Domain (domains.Rectangular (length rs)))
told_of ls (rectangular d rs m) (Shape n) = Some (values.Ranges rs)
told_of ls (rectangular d rs m) (Mapping n) = Some (values.Mapping m)
told_of ls (rectangular d rs m) (In n i) = present_if (has (indices rs) i)
told_of ls (sparse d parent is) (Object n) = Some (values.Domain (domains.Sparse parent (rank_told (first_line_of parent ls))))
told_of ls (sparse d parent is) (Use e n) = cond (is_same_name e parent) (Some (values.Bound bindings.Sparse)) None
told_of ls (sparse d parent is) (Member n i) = present_if (has is i)
told_of ls (associative d type is) (Object n) = Some (values.Domain (domains.Associative type))
told_of ls (associative d type is) (Member n i) = present_if (has is i)
told_of ls (array a d xs irv) (Object n) = Some (values.Array d (kind_told ls (first_line_of d ls)))
told_of ls (array a d xs irv) (Use e n) = cond (is_same_name e d) (Some (values.Bound bindings.Array)) None
told_of ls (array a d xs irv) (Implicit n) = Some (values.Number (implicit_told (kind_told ls (first_line_of d ls)) irv))
told_of ls (array a d xs irv) (Element n i) = option_map (λ z. values.Number z) (last_of index_cmp (zip (indices_told (first_line_of d ls)) xs) i)
told_of ls l c = None

-- the same, if there is such a line
abbrev pub told_by : List Line → Option Line → Cell → Option Value
told_by ls None c = None
told_by ls (Some l) c = told_of ls l c

-- what the lines tell of a cell: what the line of its owner does
abbrev pub told : List Line → Cell → Option Value
told ls c = told_by ls (first_line_of (owner c) ls) c
