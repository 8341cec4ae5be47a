-- What the readers of a book answer, from its cells.
use Rattle.std.specs.Prelude.{ℕ, ℤ, cond, List, length, Option, Some, None, option_map, option_and_then, slice_get}
use Rattle.std.specs.List.{filter_map}
use Rattle.std.specs.FinMap.{get, keys, entries, retain_keys}
use Rattle.wb_cells.specs.declared.cells.cell.Cell.{Cell}
use Rattle.wb_cells.specs.declared.cells.cell.Cell.TheVariants.{Object, Shape, Member, Use, Element}
use Rattle.wb_cells.specs.declared.cells.kind.DomainKind.{DomainKind}
use Rattle.wb_cells.specs.declared.cells.kind.DomainKind.TheVariants.{Rectangular, Sparse, Associative}
use Rattle.wb_cells.specs.declared.cells.pattern.Pattern.{Pattern}
use Rattle.wb_cells.specs.declared.cells.pattern.Pattern.TheVariants.{Members, Elements}
use Rattle.wb_cells.specs.declared.cells.value.Value.{Value}
use Rattle.wb_cells.specs.declared.cells.value.Value.TheVariants.{Number}
use Rattle.wb_cells.specs.declared.values.index.Index.{Index}
use Rattle.wb_cells.specs.Cells.{Name, Cells, is_same_name, matches}
use Rattle.wb_cells.specs.Shapes.{indices}
use Rattle.wb_cells.specs.WellFormed.{ranges_in, domain_at}

-- what a look at a pattern shows: the cells that it names and that are there, with their values, in their order
abbrev pub seen : Cells → Pattern → List (Cell × Value)
seen s p = entries (retain_keys s (matches p))

-- the object that a cell tells of
abbrev pub object_of : Cell → Option Name
object_of (Object n) = Some n
object_of _ = None

-- the names of the objects, ascending
abbrev pub objects : Cells → List Name
objects s = filter_map object_of (keys s)

-- the user of the domain d that a cell tells of
abbrev pub user_of : Name → Cell → Option Name
user_of d (Use e n) = cond (is_same_name d e) (Some n) None
user_of d _ = None

-- the names of what is bound to a domain, ascending
abbrev pub users : Cells → Name → List Name
users s d = filter_map (user_of d) (keys s)

-- the element that a cell with its value tells of, after its index
abbrev pub element_in : Cell × Value → Option (Index × ℤ)
element_in (Element a i, Number x) = Some (i, x)
element_in _ = None

-- the elements of an array, by what the pattern of them shows: each after its index, in the order of the indices
abbrev pub elements : Cells → Name → List (Index × ℤ)
elements s a = filter_map element_in (seen s (Elements a))

-- the index that a cell with its value tells of, as a member of a domain
abbrev pub member_in : Cell × Value → Option Index
member_in (Member d i, v) = Some i
member_in _ = None

-- the members of a sparse or associative domain, ascending
abbrev pub members : Cells → Name → List Index
members s d = filter_map member_in (seen s (Members d))

-- the indices of a rectangular domain: those of its ranges, row by row; none where the name is that of no such domain
abbrev pub indices_at : Cells → Name → Option (List Index)
indices_at s d = option_map indices (ranges_in (get s (Shape d)))

-- the indices of a domain of a kind in its order: a rectangular one has those of its ranges, another one its members
-- (Chapel Language Specification, Domains)
abbrev pub indices_of : Cells → Name → DomainKind → Option (List Index)
indices_of s d (Rectangular rank) = indices_at s d
indices_of s d (Sparse parent rank) = Some (members s d)
indices_of s d (Associative type) = Some (members s d)

-- the indices of the domain of a name in its order, whatever its kind; none where there is no such domain
abbrev pub listed_at : Cells → Name → Option (List Index)
listed_at s d = option_and_then (indices_of s d) (domain_at s d)

-- how many indices a domain has
abbrev pub size_at : Cells → Name → Option ℕ
size_at s d = option_map (λ is. length is) (listed_at s d)

-- the index of a domain at place p, counted from 0 in its order
abbrev pub index_at : Cells → Name → ℕ → Option Index
index_at s d p = option_and_then (λ is. slice_get is p) (listed_at s d)
