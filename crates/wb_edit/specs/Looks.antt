-- The looks that commands are made of. Each looks at some cells, and then the edit goes on, with what was seen, or is refused.
-- A test is a look with a judgement: the judgements say what follows from what a cell holds, and look at nothing.
use Rattle.std.specs.Prelude.{true, false, List, [], Option, Some, None, Result, Ok, Err}
use Rattle.std.specs.List.{filter_map}
use Rattle.selective_undo.specs.Edit.{look}
use Rattle.wb_cells.specs.declared.cells.cell.Cell.TheVariants.{Object, Shape, Element}
use Rattle.wb_cells.specs.declared.cells.kind.DomainKind.{DomainKind}
use Rattle.wb_cells.specs.declared.cells.kind.DomainKind.TheVariants.{Rectangular, Sparse, Associative}
use Rattle.wb_cells.specs.declared.cells.kind.Kind.{Kind}
use Rattle.wb_cells.specs.declared.cells.pattern.Pattern.TheVariants.{Members}
use Rattle.wb_cells.specs.declared.cells.value.Value.{Value}
use Rattle.wb_cells.specs.declared.cells.value.Value.TheVariants.{Domain, Array}
use Rattle.wb_cells.specs.declared.values.index.Index.{Index}
use Rattle.wb_cells.specs.Cells.{Name}
use Rattle.wb_cells.specs.Kinds.{is_key}
pub use Rattle.wb_cells.specs.Readers.{member_in}
use Rattle.wb_cells.specs.Shapes.{Range, indices}
pub use Rattle.wb_cells.specs.WellFormed.{ranges_in}
use Rattle.wb_cells.specs.declared.refusal.WhyRefused.{WhyRefused}
use Rattle.wb_cells.specs.declared.refusal.WhyRefused.TheVariants.{NameTaken, NoSuchName, WrongKind, OutOfDomain}
use Rattle.wb_edit.specs.Trees.{Look, ◌>>=◌, read, judged}

-- ---- judgements of what a cell holds

-- nothing has the name; else it is taken
abbrev pub is_free : Option Value → Result (Unit {0}) WhyRefused
is_free None = Ok tt
is_free (Some v) = Err NameTaken

-- the name is that of a domain: what it is. It is no name where nothing has it, and of the wrong kind where an array has it
abbrev pub domain_kind : Option Value → Result DomainKind WhyRefused
domain_kind None = Err NoSuchName
domain_kind (Some (Domain kind)) = Ok kind
domain_kind (Some v) = Err WrongKind

-- the name is that of an array: its domain, and that domain's kind
abbrev pub array_kind : Option Value → Result (Name × Kind) WhyRefused
array_kind None = Err NoSuchName
array_kind (Some (Array d kind)) = Ok (d, kind)
array_kind (Some v) = Err WrongKind

-- an element is there; else the index is outside
abbrev pub is_there : Option Value → Result (Unit {0}) WhyRefused
is_there None = Err OutOfDomain
is_there (Some v) = Ok tt

-- the index is of the rank and type of the indices of a domain of this kind; else it is of the wrong kind
abbrev pub fits : Kind → Index → Result (Unit {0}) WhyRefused
fits kind i = elim (is_key kind i) [ true ↦ Ok tt | false ↦ Err WrongKind ]

-- the indices of ranges, where there are any
abbrev pub indices_of : Option (List Range) → List Index
indices_of (Some rs) = indices rs
indices_of None = []

-- ---- the looks

-- the name is free: looks at its object
abbrev pub free_name : Name → Look (Unit {0})
free_name n next = do
  v ← read (Object n)
  judged (is_free v) next

-- a domain of the name: looks at its object
abbrev pub domain_named : Name → Look DomainKind
domain_named d next = do
  v ← read (Object d)
  judged (domain_kind v) next

-- an array of the name: looks at its object
abbrev pub array_named : Name → Look (Name × Kind)
array_named a next = do
  v ← read (Object a)
  judged (array_kind v) next

-- an index that fits a domain of the kind: looks at nothing
abbrev pub index_fits : Kind → Index → Look (Unit {0})
index_fits kind i = judged (fits kind i)

-- an array's element at an index: looks at it
abbrev pub element : Name → Index → Look (Unit {0})
element a i next = do
  v ← read (Element a i)
  judged (is_there v) next

-- the indices of a sparse or associative domain, ascending: looks at all of them
abbrev pub members : Name → Look (List Index)
members d next = look (Members d) (λ seen. next (filter_map member_in seen))

-- the indices of a rectangular domain, row by row: looks at its ranges
abbrev pub points : Name → Look (List Index)
points d next = do
  v ← read (Shape d)
  next (indices_of (ranges_in v))

-- the indices of a domain, in its order: looks at its ranges, or at all of its members
abbrev pub domain_indices : Name → DomainKind → Look (List Index)
domain_indices d (Rectangular rank) next = points d next
domain_indices d (Sparse parent rank) next = members d next
domain_indices d (Associative type) next = members d next
