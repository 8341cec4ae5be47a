-- The element of an array, or its implicit value: the indices of a sparse domain's parent that are not in the domain have it
-- (Chapel Language Specification, Arrays).
use Rattle.std.specs.Prelude.{ℤ, Option, Some, None, Result, Ok, Err}
use Rattle.wb_cells.specs.declared.cells.cell.Cell.TheVariants.{Object, In, Implicit, Element}
use Rattle.wb_cells.specs.declared.cells.kind.DomainKind.TheVariants.{Rectangular, Sparse, Associative}
use Rattle.wb_cells.specs.declared.cells.kind.Kind.{Kind}
use Rattle.wb_cells.specs.declared.cells.kind.Kind.TheVariants.{Rectangular, Sparse, Associative}
use Rattle.wb_cells.specs.declared.cells.value.Value.{Value}
use Rattle.wb_cells.specs.declared.cells.value.Value.TheVariants.{Domain}
use Rattle.wb_cells.specs.declared.values.index.Index.{Index}
use Rattle.wb_cells.specs.Cells.{Name}
use Rattle.wb_cells.specs.declared.refusal.WhyRefused.{WhyRefused}
use Rattle.wb_cells.specs.declared.refusal.WhyRefused.TheVariants.{OutOfDomain}
use Rattle.wb_edit.specs.Trees.{Look, ◌>>=◌, read, judged}
use Rattle.wb_edit.specs.Numbers.{element_or_refusal}
use Rattle.wb_edit.specs.Looks.{is_there}

-- ---- judgements

-- an array over another domain than a sparse one has no implicit value: an index that isn't there is outside
abbrev pub has_implicit : Kind → Result (Unit {0}) WhyRefused
has_implicit (Rectangular rank) = Err OutOfDomain
has_implicit (Sparse rank) = Ok tt
has_implicit (Associative type) = Err OutOfDomain

-- the parent of the sparse domain whose object is given
abbrev pub parent_in : Option Value → Result Name WhyRefused
parent_in (Some (Domain (Sparse parent rank))) = Ok parent
parent_in _ = Err OutOfDomain

-- ---- the looks

-- the parent of a sparse domain: looks at the domain's object
abbrev pub parent_of : Name → Look Name
parent_of d next = do
  object ← read (Object d)
  judged (parent_in object) next

-- an index of a rectangular domain: looks at whether it is in it
abbrev pub is_in_domain : Name → Index → Look (Unit {0})
is_in_domain d i next = do
  v ← read (In d i)
  judged (is_there v) next

-- the implicit value of an array: looks at it
abbrev pub implicit_value : Name → Look ℤ
implicit_value a next = do
  x ← read (Implicit a)
  judged (element_or_refusal x) next

-- the implicit value, at an index of the parent
abbrev pub implicit_inside : (a parent : Name) → Index → Look ℤ
implicit_inside a parent i next = do
  unit ← is_in_domain parent i
  implicit_value a next

-- the implicit value, at an index of the parent of the sparse domain d
abbrev pub implicit_at : (a d : Name) → Index → Look ℤ
implicit_at a d i next = do
  parent ← parent_of d
  implicit_inside a parent i next

-- the implicit value of an array over a domain of a kind, where that is sparse
abbrev pub implicit : Name → Name → Kind → Index → Look ℤ
implicit a d kind i next = do
  unit ← judged (has_implicit kind)
  implicit_at a d i next

-- what stands in the element's cell, or else the implicit value
abbrev pub or_implicit : Name → Name → Kind → Index → Option Value → Look ℤ
or_implicit a d kind i (Some v) = judged (element_or_refusal (Some v))
or_implicit a d kind i None = implicit a d kind i

-- the element of an array over the domain d, or its implicit value: looks at the element first
abbrev pub element_or_implicit : Name → Name → Kind → Index → Look ℤ
element_or_implicit a d kind i next = do
  v ← read (Element a i)
  or_implicit a d kind i v next
