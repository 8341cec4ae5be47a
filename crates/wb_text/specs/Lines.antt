-- The text of a workbook: a line for each object, names ascending, between a first and a last line.
use Rattle.std.specs.Prelude.{ℕ, ℤ, List, [], ◌++◌, codes, Option, Some, None, unwrap_or}
use Rattle.std.specs.Fmt.{signed_decimal}
use Rattle.std.specs.FinMap.{get}
use Rattle.std.specs.List.{filter_map, flat_map}
use Rattle.wb_dist.specs.Maps.{LayoutMap, whole}
use Rattle.wb_cells.specs.declared.cells.cell.Cell.{Cell}
use Rattle.wb_cells.specs.declared.cells.cell.Cell.TheVariants.{Object, Shape, Member, Mapping, Implicit, Element}
use Rattle.wb_cells.specs.declared.cells.kind.DomainKind.{DomainKind}
use Rattle.wb_cells.specs.declared.cells.kind.DomainKind.TheVariants.{Rectangular, Sparse, Associative}
use Rattle.wb_cells.specs.declared.cells.kind.KeyType.{KeyType}
use Rattle.wb_cells.specs.declared.cells.kind.KeyType.TheVariants.{Int, Text}
use Rattle.wb_cells.specs.declared.cells.kind.Kind.{Kind}
use Rattle.wb_cells.specs.declared.cells.kind.Kind.TheVariants.{Rectangular, Sparse, Associative}
use Rattle.wb_cells.specs.declared.cells.pattern.Pattern.TheVariants.{Members}
use Rattle.wb_cells.specs.declared.cells.value.Value.{Value}
use Rattle.wb_cells.specs.declared.cells.value.Value.TheVariants.{Domain, Array, Number}
use Rattle.wb_cells.specs.declared.values.index.Index.{Index}
use Rattle.wb_cells.specs.Cells.{Name, Cells}
use Rattle.wb_cells.specs.Locales.{mapping_in}
use Rattle.wb_cells.specs.Readers.{objects, seen, indices_at}
use Rattle.wb_cells.specs.WellFormed.{ranges_in}
use Rattle.wb_text.specs.Literals.{rectangle_text, set_text, integers_text, mapping_text}

-- ---- what stands in a line

-- the index of a domain that a cell tells of
abbrev pub member_in : Cell × Value → Option Index
member_in (Member d i, v) = Some i
member_in _ = None

-- the indices of a sparse or associative domain, ascending
abbrev pub members : Cells → Name → List Index
members s d = filter_map member_in (seen s (Members d))

-- the indices of a domain of the kind, in its order
abbrev pub indices_in : Cells → Name → Kind → List Index
indices_in s d (Rectangular rank) = unwrap_or (indices_at s d) []
indices_in s d (Sparse rank) = members s d
indices_in s d (Associative type) = members s d

abbrev pub number_in : Option Value → Option ℤ
number_in (Some (Number z)) = Some z
number_in _ = None

-- the element of an array at an index
abbrev pub element_at : Cells → Name → Index → Option ℤ
element_at s a i = number_in (get s (Element a i))

-- the elements of an array at the indices, in their order
abbrev pub elements_at : Cells → Name → List Index → List ℤ
elements_at s a is = filter_map (element_at s a) is

-- ---- the lines

-- a rectangular domain: its ranges and its mapping
abbrev pub rectangular_line : Name → List (List ℤ) → LayoutMap → List ℕ
rectangular_line d rs m = codes "rect " ++ (d ++ (codes " " ++ (rectangle_text rs ++ (codes " " ++ (mapping_text m ++ codes "\n")))))

-- a sparse domain: its parent and its indices
abbrev pub sparse_line : Name → Name → List Index → List ℕ
sparse_line d parent is = codes "sparse " ++ (d ++ (codes " of " ++ (parent ++ (codes " " ++ (set_text is ++ codes "\n")))))

abbrev pub type_text : KeyType → List ℕ
type_text Int = codes "int"
type_text Text = codes "text"

-- an associative domain: the type of its indices, and its indices
abbrev pub associative_line : Name → KeyType → List Index → List ℕ
associative_line d type is = codes "assoc " ++ (d ++ (codes " of " ++ (type_text type ++ (codes " " ++ (set_text is ++ codes "\n")))))

-- the implicit value of an array over a sparse domain; nothing of another array
abbrev pub implicit_text : Option ℤ → List ℕ
implicit_text None = []
implicit_text (Some z) = codes " irv " ++ signed_decimal z

-- an array: its domain, its elements, and its implicit value if its domain is sparse
abbrev pub array_line : Name → Name → List ℤ → Option ℤ → List ℕ
array_line a d xs irv = codes "array " ++ (a ++ (codes " over " ++ (d ++ (codes " " ++ (integers_text xs ++ (implicit_text irv ++ codes "\n"))))))

-- ---- the line of an object

abbrev pub domain_line : Cells → Name → DomainKind → List ℕ
domain_line s d (Rectangular rank) = rectangular_line d (unwrap_or (ranges_in (get s (Shape d))) []) (unwrap_or (mapping_in (get s (Mapping d))) whole)
domain_line s d (Sparse parent rank) = sparse_line d parent (members s d)
domain_line s d (Associative type) = associative_line d type (members s d)

-- the implicit value of an array over a domain of the kind, where it is written
abbrev pub implicit_in : Cells → Name → Kind → Option ℤ
implicit_in s a (Rectangular rank) = None
implicit_in s a (Sparse rank) = number_in (get s (Implicit a))
implicit_in s a (Associative type) = None

abbrev pub text_of_object : Cells → Name → Option Value → List ℕ
text_of_object s n (Some (Domain kind)) = domain_line s n kind
text_of_object s n (Some (Array d kind)) = array_line n d (elements_at s n (indices_in s d kind)) (implicit_in s n kind)
text_of_object s n _ = []

-- the line of the object of a name
abbrev pub object_line : Cells → Name → List ℕ
object_line s n = text_of_object s n (get s (Object n))

-- the text of a workbook; every line ends with a line feed, and nothing follows
abbrev pub book_text : Cells → List ℕ
book_text s = codes "chapel-workbook 1\n" ++ (flat_map (object_line s) (objects s) ++ codes "end\n")
