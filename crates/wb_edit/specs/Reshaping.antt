-- New ranges of a rectangular domain (Chapel Language Specification, Domains: assignment).
use Rattle.std.specs.Prelude.{Bool, true, false, List, ◌∷◌, map, Option, Some, is_some, Result, Ok, Err, length}
use Rattle.std.specs.List.{flat_map, list_any}
use Rattle.selective_undo.specs.Edit.{write}
use Rattle.wb_cells.specs.declared.cells.cell.Cell.{Cell}
use Rattle.wb_cells.specs.declared.cells.cell.Cell.TheVariants.{Shape, Member}
use Rattle.wb_cells.specs.declared.cells.kind.Kind.TheVariants.{Rectangular}
use Rattle.wb_cells.specs.declared.cells.value.Binding.TheVariants.{Array, Sparse}
use Rattle.wb_cells.specs.declared.cells.value.Value.{Value}
use Rattle.wb_cells.specs.declared.cells.value.Value.TheVariants.{Ranges}
use Rattle.wb_cells.specs.declared.values.index.Index.{Index}
use Rattle.wb_cells.specs.Cells.{Name, Changes}
use Rattle.wb_cells.specs.Shapes.{Range, indices}
use Rattle.wb_reshape.specs.Resized.{without, resized_cells}
use Rattle.wb_cells.specs.declared.refusal.WhyRefused.{WhyRefused}
use Rattle.wb_cells.specs.declared.refusal.WhyRefused.TheVariants.{WrongKind, InUse}
use Rattle.wb_edit.specs.Trees.{Tree, Look, ◌>>=◌, read, judged}
use Rattle.wb_edit.specs.Rectangles.{read_all}
use Rattle.wb_edit.specs.Resizing.{zeros}
use Rattle.wb_edit.specs.Users.{bound, uses}
use Rattle.wb_edit.specs.Writes.{set_to}

-- ---- judgements of what cells hold

-- the ranges of a rectangular domain; where there are none, the domain is of the wrong kind
abbrev pub shape_in : Option Value → Result (List Range) WhyRefused
shape_in (Some (Ranges rs)) = Ok rs
shape_in _ = Err WrongKind

-- none is there; else the domain is in use
abbrev pub absent_if : Bool → Result (Unit {0}) WhyRefused
absent_if true = Err InUse
absent_if false = Ok tt

abbrev pub none_present : List (Option Value) → Result (Unit {0}) WhyRefused
none_present vs = absent_if (list_any is_some vs)

-- ---- the looks

-- the ranges of a rectangular domain: looks at them
abbrev pub shape : Name → Look (List Range)
shape d next = do
  v ← read (Shape d)
  judged (shape_in v) next

-- the cells that say whether domains have some indices, domain by domain
abbrev pub member_cells : List Name → List Index → List Cell
member_cells names is = flat_map (λ e. map (Member e) is) names

-- none of some indices is in one of the domains: looks at each index in each domain before it judges
abbrev pub none_there : List Name → List Index → Look (Unit {0})
none_there names is next = do
  vs ← read_all (member_cells names is)
  judged (none_present vs) next

-- ---- what follows

-- what changes with the ranges of a rectangular domain, where indices leave it and others come to it: the ranges, which
-- indices it has, and the elements of the arrays over it
abbrev pub reshaped_cells : Name → (new : List Range) → (arrays : List Name) → (leaving coming : List Index) → Changes
reshaped_cells d new arrays leaving coming = set_to (Shape d) (Ranges new) ∷ resized_cells (Rectangular (length new)) d (zeros arrays) leaving coming

-- a rectangular domain gets new ranges, so that indices leave it and others come to it: none that leaves is in a sparse domain
-- in it, and new elements of the arrays over it are 0
abbrev pub replaced : Name → (new : List Range) → (leaving coming : List Index) → Tree
replaced d new leaving coming = do
  users ← uses d
  unit ← none_there (bound Sparse users) leaving
  write (reshaped_cells d new (bound Array users) leaving coming)

-- a rectangular domain with some ranges gets new ones
abbrev pub reshaped : Name → (old new : List Range) → Tree
reshaped d old new = replaced d new (without (indices new) (indices old)) (without (indices old) (indices new))
