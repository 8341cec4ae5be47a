-- Tests of commands that change which indices a domain has, and what new indices bring to the arrays over it.
use Rattle.std.specs.Prelude.{Bool, true, false, ℤ, List, map, Option, is_some, Result, Ok, Err}
use Rattle.std.specs.List.{list_all, zip}
use Rattle.selective_undo.specs.Edit.{write}
use Rattle.wb_cells.specs.declared.cells.cell.Cell.TheVariants.{In, Implicit}
use Rattle.wb_cells.specs.declared.cells.kind.DomainKind.{DomainKind}
use Rattle.wb_cells.specs.declared.cells.kind.DomainKind.TheVariants.{Rectangular, Sparse, Associative}
use Rattle.wb_cells.specs.declared.cells.value.Binding.TheVariants.{Array}
use Rattle.wb_cells.specs.declared.cells.value.Value.{Value}
use Rattle.wb_cells.specs.declared.values.index.Index.{Index}
use Rattle.wb_cells.specs.Cells.{Name}
use Rattle.wb_cells.specs.Kinds.{kind_of}
use Rattle.wb_reshape.specs.Resized.{resized_cells}
pub use Rattle.wb_reshape.specs.Fills.{number_or_zero, zeros}
use Rattle.wb_cells.specs.declared.refusal.WhyRefused.{WhyRefused}
use Rattle.wb_cells.specs.declared.refusal.WhyRefused.TheVariants.{WrongKind, OutOfParent}
use Rattle.wb_edit.specs.Trees.{Tree, Look, ◌>>=◌, judged}
use Rattle.wb_edit.specs.Rectangles.{read_all}
use Rattle.wb_edit.specs.Users.{bound, uses}

-- ---- judgements

-- a sparse or associative domain, which has members; a rectangular one is of the wrong kind
abbrev pub has_members : DomainKind → Result (Unit {0}) WhyRefused
has_members (Rectangular rank) = Err WrongKind
has_members (Sparse parent rank) = Ok tt
has_members (Associative type) = Ok tt

-- all indices are in the parent; else one is outside
abbrev pub inside_if : Bool → Result (Unit {0}) WhyRefused
inside_if true = Ok tt
inside_if false = Err OutOfParent

abbrev pub all_inside : List (Option Value) → Result (Unit {0}) WhyRefused
all_inside vs = inside_if (list_all is_some vs)

-- ---- the looks

-- a sparse or associative domain: looks at nothing
abbrev pub with_members : DomainKind → Look (Unit {0})
with_members kind = judged (has_members kind)

-- indices of a rectangular domain: looks at each of them before it judges
abbrev pub all_in_domain : Name → List Index → Look (Unit {0})
all_in_domain parent is next = do
  vs ← read_all (map (In parent) is)
  judged (all_inside vs) next

-- indices for a domain: if it is sparse, they are in its parent
abbrev pub all_in_parent : DomainKind → List Index → Look (Unit {0})
all_in_parent (Rectangular rank) is next = next tt
all_in_parent (Sparse parent rank) is next = all_in_domain parent is next
all_in_parent (Associative type) is next = next tt

-- arrays with their implicit values: looks at each of these
abbrev pub implicits : List Name → Look (List (Name × ℤ))
implicits arrays next = do
  vs ← read_all (map Implicit arrays)
  next (zip arrays (map number_or_zero vs))

-- what a new index brings to arrays over a domain: 0, or the implicit value if the domain is sparse
-- (Chapel Language Specification, Arrays)
abbrev pub defaults : DomainKind → List Name → Look (List (Name × ℤ))
defaults (Rectangular rank) arrays next = next (zeros arrays)
defaults (Sparse parent rank) arrays next = implicits arrays next
defaults (Associative type) arrays next = next (zeros arrays)

-- the arrays over a domain, each with what a new index brings to it: looks at all that is bound to the domain first
abbrev pub fills : Name → DomainKind → Look (List (Name × ℤ))
fills d kind next = do
  users ← uses d
  defaults kind (bound Array users) next

-- ---- what follows

-- indices leave a domain of a kind and others come to it, so that it has those of the list new: if it is sparse, they are in
-- its parent, and it is seen what new indices bring to the arrays over it
abbrev pub resized : Name → DomainKind → (new leaving coming : List Index) → Tree
resized d kind new leaving coming = do
  unit ← all_in_parent kind new
  brought ← fills d kind
  write (resized_cells (kind_of kind) d brought leaving coming)
