-- What the lines of a workbook say, apart from how they are written.
use Rattle.std.specs.Prelude.{ℕ, ℤ, List, [], ◌∷◌, ◌++◌, codes, cond, Option, Some, None, unwrap_or}
use Rattle.std.specs.FinMap.{get}
use Rattle.std.specs.List.{filter_map, flat_map}
use Rattle.wb_dist.specs.Maps.{LayoutMap, whole}
use Rattle.wb_cells.specs.declared.cells.cell.Cell.TheVariants.{Object, Shape, Mapping}
use Rattle.wb_cells.specs.declared.cells.kind.DomainKind.{DomainKind}
use Rattle.wb_cells.specs.declared.cells.kind.DomainKind.TheVariants.{Rectangular, Sparse, Associative}
use Rattle.wb_cells.specs.declared.cells.kind.KeyType.{KeyType}
use Rattle.wb_cells.specs.declared.cells.value.Value.{Value}
use Rattle.wb_cells.specs.declared.cells.value.Value.TheVariants.{Domain, Array}
use Rattle.wb_cells.specs.declared.values.index.Index.{Index}
use Rattle.wb_cells.specs.Cells.{Name, Cells, is_same_name}
use Rattle.wb_cells.specs.Locales.{mapping_in}
use Rattle.wb_cells.specs.Readers.{objects}
use Rattle.wb_cells.specs.WellFormed.{ranges_in}
use Rattle.wb_literals.specs.Said.{items}
use Rattle.wb_literals.specs.Limits.Literals.{listed_in}
use Rattle.wb_text.specs.Lines.{members, indices_in, elements_at, implicit_in, rectangular_line, sparse_line, associative_line, array_line}
use Rattle.wb_text.specs.declared.said.ObjectLine.{ObjectLine}
use Rattle.wb_text.specs.declared.said.ObjectLine.TheVariants as lines

-- ---- what a line says, and how it is written

pub data Line : Type 0 where
  -- a domain with its ranges and its mapping
  rectangular : Name → List (List ℤ) → LayoutMap → Line
  -- a domain in its parent, with its indices
  sparse : Name → Name → List Index → Line
  -- a domain of indices of a type, with its indices
  associative : Name → KeyType → List Index → Line
  -- an array over a domain, with its elements and its implicit value, where one is written
  array : Name → Name → List ℤ → Option ℤ → Line

abbrev pub line_text : Line → List ℕ
line_text (rectangular d rs m) = rectangular_line d rs m
line_text (sparse d parent is) = sparse_line d parent is
line_text (associative d type is) = associative_line d type is
line_text (array a d xs irv) = array_line a d xs irv

-- the lines and the last one
abbrev pub lines_text : List Line → List ℕ
lines_text ls = flat_map line_text ls ++ codes "end\n"

-- ---- the lines of names

-- whose line it is
abbrev pub name_of : Line → Name
name_of (rectangular d rs m) = d
name_of (sparse d parent is) = d
name_of (associative d type is) = d
name_of (array a d xs irv) = a

-- the first line of a name
abbrev pub first_line_of : Name → List Line → Option Line
first_line_of n [] = None
first_line_of n (l ∷ ls) = cond (is_same_name n (name_of l)) (Some l) (first_line_of n ls)

-- ---- what the lines of a workbook say

-- what the line of a domain says
abbrev pub domain_said : Cells → Name → DomainKind → Line
domain_said s d (Rectangular rank) = rectangular d (unwrap_or (ranges_in (get s (Shape d))) []) (unwrap_or (mapping_in (get s (Mapping d))) whole)
domain_said s d (Sparse parent rank) = sparse d parent (members s d)
domain_said s d (Associative type) = associative d type (members s d)

-- what the line of a name says, by what stands under it
abbrev pub said_in : Cells → Name → Option Value → Option Line
said_in s n (Some (Domain kind)) = Some (domain_said s n kind)
said_in s n (Some (Array d kind)) = Some (array n d (elements_at s n (indices_in s d kind)) (implicit_in s n kind))
said_in s n _ = None

abbrev pub said_of : Cells → Name → Option Line
said_of s n = said_in s n (get s (Object n))

-- what the lines of a workbook say
abbrev pub said : Cells → List Line
said s = filter_map (said_of s) (objects s)

-- ---- what is held of a line

abbrev pub line_of : ObjectLine → Line
line_of (lines.Rectangular d rs m) = rectangular d rs m
line_of (lines.Sparse d parent set) = sparse d parent (listed_in (items set))
line_of (lines.Associative d type set) = associative d type (listed_in (items set))
line_of (lines.Array a d xs irv) = array a d xs irv
